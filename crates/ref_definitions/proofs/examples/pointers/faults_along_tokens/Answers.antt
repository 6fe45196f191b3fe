use Rattle.std.proofs.Common.{◌≡◌, [], ◌∷◌, codes, Ok, Err, Result, refl}
use Rattle.serde_json.specs.Data.{Data}
use Rattle.ref_paths.specs.Path.{Key}
use Rattle.ref_draft.specs.declared.draft.Draft.TheVariants.{Draft202012}
use Rattle.ref_uri.specs.Targets.{parse_refusal}
use Rattle.ref_definitions.specs.Fault.{Fault, PointerToNowhere, InvalidArrayIndex, InvalidUri}
use Rattle.ref_definitions.specs.Bases.{Along}
use Rattle.ref_definitions.specs.Rows.{yes, empty, text, one, pair, along}
use Rattle.ref_definitions.proofs.Reading.{first_fault, fault_only}
use Rattle.ref_definitions.proofs.OnLiterals.{world_on_literals}
use Rattle.ref_definitions.proofs.examples.pointers.faults_along_tokens.Goals as goal

no_fault : (answer : Data × Along) (fault : Fault) (r : Result (Data × Along) Fault) → r ≡ Ok answer → r ≡ Err fault → ⊥
no_fault answer fault r is other = cc

pub returns : goal.returns
unfolding world_on_literals
returns c = record {
  identifier = first_fault Draft202012 (codes "/not/x") (codes "http://a/r") (codes "not/x") (one "not" (one "$id" (text "a b"))) (InvalidUri (parse_refusal (codes "a b"))) refl refl;
  no_index = first_fault Draft202012 (codes "/l/+/x") (codes "http://a/r") (codes "l/+/x") (one "l" (pair yes empty)) (InvalidArrayIndex (codes "/l/+/x") (codes "+")) refl refl;
  no_member = first_fault Draft202012 (codes "/x/y") (codes "http://a/r") (codes "x/y") empty (PointerToNowhere (codes "/x/y")) refl refl;
  into_a_boolean = first_fault Draft202012 (codes "/not/0") (codes "http://a/r") (codes "not/0") (one "not" yes) (PointerToNowhere (codes "/not/0")) refl refl;
  identifier_that_does_not_count = λ faulty.
      no_fault (one "$id" (text "a b"), along "http://a/r" (Key (codes "const") ∷ [])) (InvalidUri (parse_refusal (codes "a b"))) _ refl
      (fault_only Draft202012 (codes "/const") (codes "http://a/r") (codes "const") (one "const" (one "$id" (text "a b"))) (InvalidUri (parse_refusal (codes "a b"))) refl faulty);
  not_the_second = λ faulty.
      let is : Err (InvalidUri (parse_refusal (codes "a b"))) ≡ Err (PointerToNowhere (codes "/not/x")) =
      fault_only Draft202012 (codes "/not/x") (codes "http://a/r") (codes "not/x") (one "not" (one "$id" (text "a b"))) (PointerToNowhere (codes "/not/x")) refl faulty in cc;
}
