-- Answers and errors of `prepare_and_follow`, over what was prepared.
use Rattle.std.proofs.Common.{◌≡◌, ℕ, List}
use Rattle.std.specs.Prelude.{IfOk, IfErr, Result, Ok, Err}
use Rattle.ref_definitions.specs.World.{World}
use Rattle.ref_definitions.specs.Preparing.{Given}
use Rattle.ref_definitions.specs.Follow.{Step, followed_steps}
use Rattle.referencing.specs.declared.answer.Answer.{Answer}
use Rattle.referencing.specs.declared.answer.AnswerError.{AnswerError}
use Rattle.referencing.specs.declared.answer.AnswerError.TheVariants as error
use Rattle.referencing.specs.Answering.{answer_of, Answers, FailsOver, IsFailureOf}
use Rattle.referencing.specs.Prepared.{IsPreparedOf}
use Rattle.referencing.proofs.Retrieved.{retrieved_in}

-- what fails over a world that preparing may return is a failure
pub fails : (given : Given) (world : World) (base : List ℕ) (steps : List Step) (result : Result Answer AnswerError) → IsPreparedOf given world → IfErr result (FailsOver world base steps)
    → IfErr result (IsFailureOf given base steps)
fails given world base steps (Ok answer) prepared over = over
fails given world base steps (Err (error.Prepare e)) prepared over = absurd over
fails given world base steps (Err (error.Follow e)) prepared over = (world, prepared, over)
fails given world base steps (Err (error.Memory memory)) prepared over = (world, prepared, over)

-- what the steps lead to over such a world is an answer
pub answers : (given : Given) (world : World) (base : List ℕ) (steps : List Step) (result : Result Answer AnswerError) → IsPreparedOf given world
    → IfOk result (λ a. followed_steps world base steps ≡ Ok (answer_of a)) → IfOk result (λ a. Answers given base steps (answer_of a))
answers given world base steps (Ok answer) prepared over = (world, prepared, retrieved_in given world prepared, over)
answers given world base steps (Err e) prepared over = over
