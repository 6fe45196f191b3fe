-- Steps of the program, and where they lead, as the definitions have them.
use Rattle.std.specs.Prelude.{◌≡◌, ℕ, List, codes, decimal, ◌++◌, take, Option, option_map, Result, Ok, Err, ⊤}
use Rattle.std.specs.Borrow.{Bor}
use Rattle.serde_json.specs.Data.{Data}
use Rattle.serde_json.specs.View.{view}
use Rattle.serde_json.specs.declared.value.Value.{Value}
use Rattle.ref_draft.specs.declared.draft.Draft.{Draft}
use Rattle.ref_draft.specs.Views.{resource_ref}
use Rattle.ref_definitions.specs.World.{World}
use Rattle.ref_definitions.specs.Fault.{Fault}
use Rattle.ref_definitions.specs.Follow as world
use Rattle.ref_error.specs.declared.error.Error.{Error}
use Rattle.ref_error.specs.declared.error.Error.TheVariants as error
use Rattle.ref_error.specs.Errors.{SaysFault, error_text}
use Rattle.referencing.specs.declared.steps.Step.{Step}
use Rattle.referencing.specs.declared.steps.Step.TheVariants as step
use Rattle.referencing.specs.declared.steps.Followed.{Followed}
use Rattle.referencing.specs.declared.steps.FollowError.{FollowError}
use Rattle.ref_resolver.specs.Resolving.{resolver_of}

-- a step
abbrev pub step_of : Step → world.Step
step_of (step.Lookup reference) = world.Lookup reference.now
step_of step.Recursive = world.Recursive
step_of (step.Enter resource) =
    world.Enter (resource_ref resource).draft (resource_ref resource).contents

-- a document's own value, with its draft
abbrev pub lent_last : Option (Bor Value × Draft) → Option (Data × Draft)
lent_last last = option_map (λ found. (view found.0.now, found.1)) last

-- where steps lead
abbrev pub followed_of : Followed → world.Followed
followed_of f = record { last = lent_last f.last; resolver = resolver_of f.resolver }

-- the steps before the one with this number lead somewhere
abbrev pub ReachesStep : World → List ℕ → List world.Step → ℕ → Type 0
ReachesStep w base steps number =
    (f : world.Followed) × (world.followed_steps w base (take number steps) ≡ Ok f)

-- the error says the fault that the answer is, with the number of its step, or is out of memory
abbrev pub SaysStepFault : Result world.Followed (ℕ × Fault) → ℕ → Error → Type 0
SaysStepFault answer number (error.Memory memory) = ⊤
SaysStepFault answer number error =
    (fault : Fault) × (answer ≡ Err (number, fault)) × SaysFault error fault

abbrev pub IsStepFaultOf : Result world.Followed (ℕ × Fault) → FollowError → Type 0
IsStepFaultOf answer e = SaysStepFault answer e.step e.error

-- a call gives where steps lead, or says the fault of the first that finds no value
abbrev pub GivesSteps : Result world.Followed (ℕ × Fault) → Result Followed FollowError → Type 0
GivesSteps answer (Ok followed) = answer ≡ Ok (followed_of followed)
GivesSteps answer (Err e) = IsStepFaultOf answer e

-- what is displayed of it
abbrev pub follow_error_text : FollowError → List ℕ
follow_error_text e = codes "Step " ++ decimal e.step ++ codes ": " ++ error_text e.error
