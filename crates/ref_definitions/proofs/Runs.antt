-- Runs and outcomes, by their facts one after another.
use Rattle.std.proofs.Common.{◌≡◌, ℕ, suc, ◌<◌, ◌≤◌, List, [], ◌∷◌, ◌++◌, Ok, Err}
use Rattle.serde_json.specs.Data.{Data}
use Rattle.ref_uri.specs.Targets.{Refusal}
use Rattle.ref_definitions.specs.World.{Layer, document}
use Rattle.ref_definitions.specs.Fault.{InvalidUri, RetrievalLimit}
use Rattle.ref_definitions.specs.Wants.{Want, faults, open_wants}
use Rattle.ref_definitions.specs.Preparing.{Given, IsRun, retrieved, IsOutcome, faulty, limited, refused, ready, refusal_fault}

-- a run with one document more
pub retrieved_run : {given : Given} (n : ℕ) (layer : Layer) (want : Want) (more : List Want) (tree : Data) → IsRun given n layer → faults layer ≡ []
    → open_wants (layer ∷ given.parents) layer ≡ want ∷ more → given.retriever.may_answer want.uri tree → IsRun given (suc n) (layer ++ document given.draft want.uri tree ∷ [])
retrieved_run n layer want more tree run clean unmet answered =
    retrieved n layer want tree run (record { next = record { no_fault = clean; more = more; first_open = unmet }; answered = answered })

pub faulty_run : {given : Given} (n : ℕ) (layer : Layer) (refusal : Refusal) (more : List Refusal) → IsRun given n layer → n ≤ given.limit → faults layer ≡ refusal ∷ more → IsOutcome given (Err (InvalidUri refusal))
faulty_run n layer refusal more run within first = faulty refusal (record { count = n; layer = layer; run = run; within = within; more = more; first_fault = first })

pub limited_run : {given : Given} (layer : Layer) (want : Want) (more : List Want) → IsRun given given.limit layer → faults layer ≡ []
    → open_wants (layer ∷ given.parents) layer ≡ want ∷ more → IsOutcome given (Err (RetrievalLimit want.uri given.limit))
limited_run layer want more run clean unmet = limited want (record { layer = layer; run = run; next = record { no_fault = clean; more = more; first_open = unmet } })

pub refused_run : {given : Given} (n : ℕ) (layer : Layer) (want : Want) (more : List Want) (text : List ℕ) → IsRun given n layer → n < given.limit → faults layer ≡ []
    → open_wants (layer ∷ given.parents) layer ≡ want ∷ more → given.retriever.may_refuse want.uri text → IsOutcome given (Err (refusal_fault want.cause want.uri text))
refused_run n layer want more text run less clean unmet may =
    refused want text (record { count = n; layer = layer; run = run; below = less; next = record { no_fault = clean; more = more; first_open = unmet }; refuses = may })

pub ready_run : {given : Given} (n : ℕ) (layer : Layer) → IsRun given n layer → n ≤ given.limit → faults layer ≡ [] → open_wants (layer ∷ given.parents) layer ≡ [] → IsOutcome given (Ok layer)
ready_run n layer run within clean shut = ready layer (record { count = n; run = run; within = within; no_fault = clean; no_want = shut })
