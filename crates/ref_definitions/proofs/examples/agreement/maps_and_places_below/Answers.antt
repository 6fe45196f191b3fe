use Rattle.std.proofs.Common.{◌≡◌, ◌<◌, codes, Some, None, refl, sym, ap, arith, Ordering, Less, Equal, Greater, nat_cmp}
use Rattle.std.proofs.lemmas.List.Elements.{All-nil}
use Rattle.std.proofs.lemmas.Str.{IsUtf8-nil}
use Rattle.std.specs.Ordering.{match_ordering}
use Rattle.std.specs.Cmp.Lexicographic.{slice_cmp}
use Rattle.serde_json.specs.Data.{Data}
use Rattle.ref_draft.specs.Schema.{text_under}
use Rattle.ref_definitions.specs.Agreement.{itself, below}
use Rattle.ref_definitions.specs.Rows.{yes, text, one}
use Rattle.ref_definitions.proofs.OnLiterals.{world_on_literals}
use Rattle.ref_definitions.proofs.examples.agreement.maps_and_places_below.Goals as goal

-- what an object of one member finds under a key
found_alone : (value found : Data) (o : Ordering) → match_ordering o None (Some value) None ≡ Some found → value ≡ found
found_alone value found Less is = absurd (cc)
found_alone value found Equal is = cc
found_alone value found Greater is = absurd (cc)

pub returns : goal.returns
unfolding world_on_literals
returns c = record {
  text_in_a_map = λ plain. absurd (let none = plain (codes "properties") (one "$id" (text "m")) refl refl in cc);
  text_in_dependencies = λ plain. absurd (let none = plain (codes "dependencies") (one "$id" (text "m")) refl refl in cc);
  text_in_a_map_of_4 = λ plain. absurd (let none = plain (codes "definitions") (one "id" (text "m")) refl refl in cc);
  schema_in_a_map = λ keyword schemas map_keyword is. ap (text_under (codes "$id")) (sym (found_alone (one "$id" yes) schemas (slice_cmp nat_cmp keyword (codes "properties")) is));
  at_itself = itself;
  below = below _ _ (0, omega arith, refl) itself;
  empty_path = record { utf8 = IsUtf8-nil; bytes = All-nil (λ b. b < 256); fits = tt };
}
