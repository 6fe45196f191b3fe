-- The result of `follow`.
use Rattle.std.specs.Prelude.{◌≡◌, ℕ, List, [], ◌∷◌, ◌++◌, codes, Option, None, Some, option_and_then, Result, Ok, Err}
use Rattle.std.specs.Result.{result_ok}
use Rattle.serde_json.specs.Data.{Data, null, boolean, number, string, array, object}
use Rattle.ref_draft.specs.declared.draft.Draft.{Draft}
use Rattle.ref_draft.specs.Schema.{detect}
use Rattle.ref_definitions.specs.Results.{◌>>=◌}
use Rattle.ref_definitions.specs.World.{World}
use Rattle.ref_definitions.specs.Fault.{Fault}
use Rattle.ref_definitions.specs.Lookup.{Resolver}
use Rattle.ref_definitions.specs.Follow.{Step, Lookup, Recursive, Enter, Followed, after_step, followed_from}
use Rattle.ref_index.specs.Spots.{Spot}
use Rattle.ref_resolver.specs.Locations.{lookup_location, recursive_reference}
use Rattle.ref_calls.specs.declared.fault.Wrong.TheVariants.{InvalidField}
use Rattle.ref_calls.specs.Objects.{object_of, whole}
use Rattle.ref_calls.specs.Errors.{field_error, fault_members, at_index}
use Rattle.ref_calls.specs.Calls.{required_member, items_in, each_item, draft_of}
use Rattle.ref_serve.specs.State.{Registries}
use Rattle.ref_serve.specs.Results.{Then, Asked, Start, asked_of, start_of, resolver_members, IsFoundAt}

-- ---- what is asked

-- a step: a text is looked up, null is a recursive reference, and an object, whose draft is detected, is entered
abbrev pub step_at : Draft → Data → Result Step Data
step_at draft (string text) = Ok (Lookup text)
step_at draft null = Ok Recursive
step_at draft (object ms) = Ok (Enter (detect draft (object ms)) (object ms))
step_at draft (boolean b) = Err (field_error InvalidField (codes "steps"))
step_at draft (number n) = Err (field_error InvalidField (codes "steps"))
step_at draft (array ds) = Err (field_error InvalidField (codes "steps"))

-- the step that an item is
abbrev pub step_in : Draft → ℕ → Data → Result Step Data
step_in draft n d = at_index n (step_at draft d)

-- the steps of a call
unfoldable pub steps_of : Draft → Data → Result (List Step) Data
steps_of draft d = do
  value ← required_member (codes "steps") d
  items ← items_in (codes "steps") value
  each_item (step_in draft) 0 items

-- ---- what is answered

-- before the first step: no value was found
abbrev pub start_at : Resolver → Followed
start_at r = record { last = None; resolver = r }

-- the place of the value that was found last, after one more step: a look-up finds another, and entering none
abbrev pub step_place : World → Resolver → Option (ℕ × Spot) → Step → Option (ℕ × Spot)
step_place world r at (Lookup reference) = lookup_location world r reference
step_place world r at Recursive = lookup_location world r (recursive_reference world r)
step_place world r at (Enter draft value) = at

-- after steps, as far as they lead somewhere
abbrev pub place_after : World → Option (ℕ × Spot) → Followed → List Step → Option (ℕ × Spot)
place_after world at f [] = at
place_after world at f (step ∷ steps) =
    option_and_then (λ g. place_after world (step_place world f.resolver at step) g steps)
    (result_ok (after_step world f step))

-- the object of where steps lead: that of the value that was found last, at this place, and the base and the scope;
-- without a value these alone
abbrev pub IsFollowedTo : Asked → Option (ℕ × Spot) → Option (Data × Draft) → Resolver → Data
    → Type 0
IsFollowedTo asked at None r d = d ≡ object_of (resolver_members asked.kept r)
IsFollowedTo asked at (Some last) r d =
    IsFoundAt asked at (record { value = last.0; draft = last.1; resolver = r }) d

-- the members of the error of a step: those of its fault, and its number
abbrev pub step_members : ℕ → Fault → List (List ℕ × Data)
step_members n fault = fault_members fault ++ (codes "step", whole n) ∷ []

-- the object of where steps lead, or the error of the first that is faulty
abbrev pub IsFollowed : Asked → Option (ℕ × Spot) → Result Followed (ℕ × Fault)
    → Result Data Data
    → Type 0
IsFollowed asked at (Ok f) (Ok d) = IsFollowedTo asked at f.last f.resolver d
IsFollowed asked at (Ok f) (Err e) = ⊥
IsFollowed asked at (Err fault) (Ok d) = ⊥
IsFollowed asked at (Err fault) (Err e) = e ≡ object_of (step_members fault.0 fault.1)

-- the steps one after another, from where the call is
abbrev pub IsFollowedFrom : Start → List Step → Result Data Data → Type 0
IsFollowedFrom s steps outcome =
    IsFollowed s.asked (place_after s.asked.world None (start_at s.resolver) steps)
    (followed_from s.asked.world 0 (start_at s.resolver) steps) outcome

-- the same of a call whose draft may not be readable, nor its steps
abbrev pub IsFollowedBy : Data → Start → Result Data Data → Type 0
IsFollowedBy d s outcome =
    Then (draft_of d) (λ draft. Then (steps_of draft d) (IsFollowedFrom s)) outcome

-- `follow`
unfoldable pub IsFollow : Registries → Data → Result Data Data → Type 0
IsFollow state d outcome =
    Then (asked_of state d) (λ asked. Then (start_of asked d) (IsFollowedBy d)) outcome
