use Rattle.std.proofs.Common.{ℕ, Bool, List, [], ◌∷◌, codes, Result, Ok, Err, is_some, ⊎_elim, refl, sym, ap, false, true≢false, bytes_eq, arith}
use Rattle.std.specs.List.{Contains}
use Rattle.ref_paths.specs.Path.{Key, path_eq}
use Rattle.ref_draft.specs.declared.draft.Draft.TheVariants.{Draft7}
use Rattle.ref_draft.specs.Keywords.{is_before_2020}
use Rattle.ref_draft.specs.Children.{is_object}
use Rattle.ref_uri.specs.Targets.{Refusal}
use Rattle.ref_definitions.specs.Places.{Place, root}
use Rattle.ref_definitions.specs.Agreement.{itself, below}
use Rattle.ref_definitions.specs.Rows.{at, yes, empty, text, one, place_below}
use Rattle.ref_definitions.proofs.OnLiterals.{world_on_literals}
use Rattle.ref_definitions.proofs.Lists.{first_or_later, none_in_nothing}
use Rattle.ref_definitions.proofs.examples.agreement.resources_not_read_alike.Goals as goal

-- whether a base is a URI
is_uri : List ℕ → Result (List ℕ) Refusal → Bool
is_uri uri (Ok base) = bytes_eq base uri
is_uri uri (Err refusal) = false

pub returns : goal.returns
unfolding world_on_literals is_uri
returns c = record {
  document_elsewhere = λ is. omega (arith, is.document.1);
  no_place = λ is. ⊎_elim (λ same. true≢false (ap (λ (p : Place). is_object p.value) same)) (none_in_nothing (root (at Draft7 "http://a/r" yes))) (first_or_later (root (at Draft7 "http://a/r" empty)) [] (root (at Draft7 "http://a/r" yes)) is.place);
  no_resource = λ is. ⊎_elim (λ same. true≢false (sym (ap (λ (p : Place). is_object p.value) same))) (λ has. true≢false (sym has)) is.resource;
  another_uri = λ is. true≢false (ap (is_uri (codes "http://a/r")) is.base);
  another_place = λ is. true≢false (sym (ap (λ (p : Place). path_eq p.path (Key (codes "if") ∷ [])) (is.alone (place_below "then" (one "$id" (text "k")) "http://a/r" "http://a/k") (2, omega arith, refl))));
  another_document = λ is. true≢false (ap (λ (p : Place). is_object p.value) (is.alone (root (at Draft7 "http://a/r" empty)) (1, omega arith, refl)));
  another_draft = λ is. true≢false (ap is_before_2020 (is.one_draft _ (below _ _ (0, omega arith, refl) itself)));
  map_with_an_identifier = λ is. true≢false (ap is_some (is.plain_maps refl _ itself (codes "properties") (one "$id" (text "m")) refl refl));
}
