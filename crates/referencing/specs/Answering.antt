-- What documents, a base and steps lead to: preparing, and then following.
use Rattle.std.specs.Prelude.{◌≡◌, ℕ, List, codes, Option, option_map, Ok}
use Rattle.serde_json.specs.Data.{Data}
use Rattle.serde_json.specs.View.{view}
use Rattle.serde_json.specs.declared.value.Value.{Value}
use Rattle.ref_draft.specs.declared.draft.Draft.{Draft}
use Rattle.ref_definitions.specs.World.{World}
use Rattle.ref_definitions.specs.Preparing.{Given}
use Rattle.ref_definitions.specs.Follow.{Step, Followed, followed_steps}
use Rattle.ref_error.specs.Errors.{error_text}
use Rattle.ref_index.specs.Retrieval.{IsFaultyOutcome}
use Rattle.referencing.specs.declared.answer.Answer.{Answer}
use Rattle.referencing.specs.declared.answer.AnswerError.{AnswerError}
use Rattle.referencing.specs.declared.answer.AnswerError.TheVariants as error
use Rattle.referencing.specs.Prepared.{IsPreparedOf, ReferencesAreRetrieved}
use Rattle.referencing.specs.Following.{IsStepFaultOf, ReachesStep, follow_error_text}

-- a value that was copied, with its draft
abbrev pub copied_last : Option (Value × Draft) → Option (Data × Draft)
copied_last last = option_map (λ found. (view found.0, found.1)) last

-- an answer's value, draft, base and scope
abbrev pub answer_of : Answer → Followed
answer_of a =
    record { last = copied_last a.last; resolver = record { base = a.base.value; scope = a.scope } }

-- an answer is what the steps lead to from the base, over a world that preparing may return, in which no `$ref` of an own place
-- is unretrievable
abbrev pub Answers : Given → List ℕ → List Step → Followed → Type 0
Answers given base steps answer =
    (world : World) × IsPreparedOf given world × ReferencesAreRetrieved world
    × (followed_steps world base steps ≡ Ok answer)

-- over a world, an error says the fault of the first step that finds nothing, and the steps before it lead somewhere; or all
-- steps do, and there is no memory for a copy of what they lead to
abbrev pub FailsOver : World → List ℕ → List Step → AnswerError → Type 0
FailsOver world base steps (error.Prepare e) = ⊥
FailsOver world base steps (error.Follow e) =
    IsStepFaultOf (followed_steps world base steps) e × ReachesStep world base steps e.step
FailsOver world base steps (error.Memory memory) =
    (f : Followed) × (followed_steps world base steps ≡ Ok f)

-- an error is one of preparing, or one over a world that preparing may return
abbrev pub IsFailureOf : Given → List ℕ → List Step → AnswerError → Type 0
IsFailureOf given base steps (error.Prepare e) = IsFaultyOutcome given e
IsFailureOf given base steps other =
    (world : World) × IsPreparedOf given world × FailsOver world base steps other

-- what is displayed of it: the fault of the documents, or of a step with its number; or that memory ran out
abbrev pub answer_error_text : AnswerError → List ℕ
answer_error_text (error.Prepare e) = error_text e
answer_error_text (error.Follow e) = follow_error_text e
answer_error_text (error.Memory memory) = codes "Out of memory"
