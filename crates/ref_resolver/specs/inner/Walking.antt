-- The walk along a pointer, as the code makes it, for private clauses: with what the parts since the base last changed lead
-- to, in place of these parts.
use Rattle.std.specs.Prelude.{ℕ, List, [], ◌∷◌, bytes_eq, Option, None, Result, Ok, if◌then◌else◌}
use Rattle.serde_json.specs.Data.{Data}
use Rattle.serde_json.specs.View.{view}
use Rattle.ref_draft.specs.declared.draft.Draft.{Draft}
use Rattle.ref_draft.specs.declared.reached.Reached.{Reached}
use Rattle.ref_draft.specs.declared.reached.Reached.TheVariants.{Schema}
use Rattle.ref_draft.specs.Schema.{identifier}
use Rattle.ref_draft.specs.Children.{is_object}
use Rattle.ref_draft.specs.Reached.{accepts_at, reached_after}
use Rattle.ref_uri.specs.Targets.{Refusal}
use Rattle.ref_definitions.specs.Results.{◌>>=◌}
use Rattle.ref_definitions.specs.Places.{base_within}
use Rattle.ref_definitions.specs.Fault.{Fault, as_invalid_uri}
use Rattle.ref_definitions.specs.Pointers.{step_into, walked_along, pointed_value}
use Rattle.ref_error.specs.declared.error.Error.{Error}
use Rattle.ref_error.specs.Errors.{Gives}
use Rattle.ref_resolver.specs.declared.pointed.Along.{Along}
use Rattle.ref_resolver.specs.declared.pointed.Walk.{Walk}

-- the base at a value of the way, and what the parts since it last changed lead to
pub record Passed : Type 0 where
  pub base : List ℕ
  pub reached : Reached

abbrev pub along_of : Along → Passed
along_of a = record { base = a.base.value; reached = a.reached }

-- the value that a token leads to, and what the parts lead to with the one that it is
abbrev pub stepped_into : Draft → List ℕ → Reached → Data → List ℕ → Result (Reached × Data) Fault
stepped_into draft pointer reached value token =
    step_into pointer value token >>= λ s. Ok (reached_after draft reached s.0, s.1)

-- the identifier of a value that counts there
abbrev pub accepted_id : Draft → Reached → Data → Option (List ℕ)
accepted_id draft reached value =
    if accepts_at (is_object value) reached then identifier draft value else None

-- a URI as the base: where it is another, the parts are forgotten
abbrev pub changed_base : List ℕ → Reached → List ℕ → Passed
changed_base base reached uri =
    if bytes_eq uri base then record { base = base; reached = reached }
    else record { base = uri; reached = Schema }

-- the base at a value that was stepped into
abbrev pub base_after : Draft → List ℕ → Reached × Data → Result Passed Refusal
base_after draft base s =
    base_within base (accepted_id draft s.0 s.1) >>= λ uri. Ok (changed_base base s.0 uri)

-- one token further: the value there, with the base and what the parts lead to
abbrev pub stepped_along : Draft → List ℕ → Passed → Data → List ℕ → Result (Data × Passed) Fault
stepped_along draft pointer passed value token =
    stepped_into draft pointer passed.reached value token
    >>= λ s. as_invalid_uri (base_after draft passed.base s) >>= λ next. Ok (s.1, next)

-- the value along tokens, with the base and what the parts lead to
abbrev pub passed_along : Draft → List ℕ → Passed → Data → List (List ℕ)
    → Result (Data × Passed) Fault
passed_along draft pointer passed value [] = Ok (value, passed)
passed_along draft pointer passed value (token ∷ tokens) =
    stepped_along draft pointer passed value token
    >>= λ s. passed_along draft pointer s.1 s.0 tokens

-- a step along a token goes from one value of the way to another, or is refused
abbrev pub Steps : {B : Type 0} → Walk → Along → List ℕ → Along → Result B Error → Type 0
Steps walk from token to result =
    Gives (λ _. (view to.value.now, along_of to))
    (stepped_along walk.draft walk.pointer.now (along_of from) (view from.value.now) token)
    result

-- where tokens lead, with the base there
abbrev pub leads_to : Draft → List ℕ → List ℕ → Data → List (List ℕ) → Result (Data × List ℕ) Fault
leads_to draft pointer base value tokens =
    walked_along draft pointer (record { base = base; since = [] }) value tokens
    >>= λ at. Ok (at.0, at.1.base)

-- where a pointer leads, with the base there
abbrev pub pointed_to : Draft → List ℕ → List ℕ → Data → List ℕ → Result (Data × List ℕ) Fault
pointed_to draft pointer base value text =
    pointed_value draft pointer base value text >>= λ at. Ok (at.0, at.1.base)

-- a pointer leads from the value of a resource to another, or is refused
abbrev pub Follows : {B : Type 0} → Walk → Along → List ℕ → Along → Result B Error → Type 0
Follows walk from text to result =
    Gives (λ _. (view to.value.now, to.base.value))
    (pointed_to walk.draft walk.pointer.now from.base.value (view from.value.now) text)
    result
