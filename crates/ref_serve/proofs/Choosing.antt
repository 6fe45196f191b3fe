-- By what references choose.
use Rattle.std.proofs.Common.{◌≡◌, ℕ, List, None, codes, Option, Result, Ok, Err, OnOk, refl, sym, ap, ◌∙◌}
use Rattle.std.specs.declared.alloc.AllocError.{AllocError}
use Rattle.serde_json.specs.Data.{Members}
use Rattle.ref_definitions.specs.Fault.{Fault}
use Rattle.ref_definitions.specs.Lookup.{Found}
use Rattle.ref_definitions.specs.Listing.{Listed}
use Rattle.ref_calls.specs.Objects.{with_all}
use Rattle.ref_serve.specs.Candidates.{Choice, choice_at, candidate_members}

-- one under `$ref` by nothing
pub no_choice : (keyword text : List ℕ) (answer : Result Found Fault) → keyword ≡ codes "$ref" → None ≡ choice_at keyword text answer
no_choice keyword text (Ok found) is = sym (ap (λ k. choice_at k text (Ok found)) is)
no_choice keyword text (Err fault) is = refl

-- what is put by a choice is put by another way to it
pub put_by : {A : Type 0} (result : Result A AllocError) (places : List Listed) (one other : Option Choice) (old new : Members) → one ≡ other
    → OnOk result (new ≡ with_all (candidate_members places one) old) → OnOk result (new ≡ with_all (candidate_members places other) old)
put_by (Ok done) places one other old new same put = put ∙ ap (λ c. with_all (candidate_members places c) old) same
put_by (Err e) places one other old new same put = tt
