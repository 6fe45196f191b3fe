use Rattle.std.proofs.Common.{◌≡◌, List, [], ◌∷◌, codes, None, Some, refl}
use Rattle.ref_paths.specs.Path.{Part, Key, Index, value_at}
use Rattle.ref_draft.specs.declared.draft.Draft.TheVariants.{Draft7, Draft202012}
use Rattle.ref_draft.proofs.Scanning.{accepted, refused}
use Rattle.ref_definitions.specs.Rows.{yes, empty, text, one, two}
use Rattle.ref_definitions.specs.Changes.{begun}
use Rattle.ref_definitions.proofs.Changes.{pointer_leads}
use Rattle.ref_definitions.proofs.OnLiterals.{world_on_literals}
use Rattle.ref_definitions.proofs.examples.pointers.changes_of_the_base.Goals as goal

-- a boolean has no other value in it
no_path : (path : List Part) → value_at yes path ≡ Some empty → ⊥
no_path [] is = cc
no_path (Key k ∷ path) is = cc
no_path (Index i ∷ path) is = cc

pub returns : goal.returns
unfolding world_on_literals
returns c = record {
  at_the_start = begun;
  a_change = record { accepted = accepted Draft202012 (one "$id" (text "s/")) (Key (codes "not") ∷ []) refl; id = codes "s/"; is = refl; means = refl; another = λ same. cc };
  no_change_of_the_base = λ change. change.another refl;
  no_change_at_no_schema = λ change. refused Draft202012 (one "$id" (text "z")) (Key (codes "const") ∷ []) refl change.accepted;
  stays_at_no_schema = λ id ok is. absurd (refused Draft202012 (one "$id" (text "z")) (Key (codes "const") ∷ []) refl ok);
  stays_without_identifier = λ id ok is. absurd (let e : None ≡ Some id = is in cc);
  along_a_path = pointer_leads Draft7 (codes "/items/const") (codes "http://a/r") (codes "items/const") (one "items" (two "$id" (text "z") "const" (one "$id" (text "w")))) (one "$id" (text "w")) _ refl;
  along_no_path = λ leads. no_path leads.path leads.there;
}
