-- Where a retriever returns or refuses each URI, preparing has an outcome, and so each request has a report.
use Rattle.std.proofs.Common.{◌≡◌, ℕ, zero, suc, ◌+◌, ◌≤◌, List, [], ◌∷◌, ◌++◌, codes, Option, Some, None, option_map, unwrap_or, Result, Ok, Err, ◌⊎◌, inl, inr, refl, ap, subst, arith}
use Rattle.serde_json.specs.Data.{Data}
use Rattle.ref_uri.specs.Targets.{Refusal}
use Rattle.ref_definitions.specs.World.{Layer, World, document}
use Rattle.ref_definitions.specs.Fault.{Fault, InvalidUri, RetrievalLimit}
use Rattle.ref_definitions.specs.Pending.{Pending}
use Rattle.ref_definitions.specs.Resources.{last_under}
use Rattle.ref_definitions.specs.Wants.{Want, faults, open_wants}
use Rattle.ref_definitions.specs.Preparing.{Retriever, Given, IsRun, begun, IsOutcome, refusal_fault}
use Rattle.ref_definitions.proofs.Runs.{retrieved_run, faulty_run, limited_run, refused_run, ready_run}
use Rattle.ref_definitions.specs.Retrievers.{default_retriever, map_retriever}
use Rattle.referencing.specs.MetaSchemas.{given_of_meta_schemas}
use Rattle.ref_report.specs.declared.request.BadRequest.{BadRequest}
use Rattle.ref_report.specs.Report.{Report, bad_report, fault_report, world_report, IsReportAbove, IsReadReport}
use Rattle.ref_report.specs.Request.{Document, Request}
use Rattle.ref_registries.specs.Worlds.{pending_of, above_parents, IsWorld}
use Rattle.ref_report.specs.Worlds.{AreParents, given_of_request}

-- an answer or a refusal for each URI
abbrev AnswersOrRefuses : Retriever → Type 0
AnswersOrRefuses r = (uri : List ℕ) → ((tree : Data) × r.may_answer uri tree) ⊎ ((text : List ℕ) × r.may_refuse uri text)

by_map : (pairs : List (List ℕ × Data)) (uri : List ℕ) (found : Option (List ℕ × Data)) → last_under uri pairs ≡ found
    → ((tree : Data) × (map_retriever pairs).may_answer uri tree) ⊎ ((text : List ℕ) × (map_retriever pairs).may_refuse uri text)
by_map pairs uri (Some e) is = inl (e.1, ap (option_map (λ (x : List ℕ × Data). x.1)) is)
by_map pairs uri None is = inr (codes "no document under this URI", (is, refl))

map_answers_or_refuses : (pairs : List (List ℕ × Data)) → AnswersOrRefuses (map_retriever pairs)
map_answers_or_refuses pairs uri = by_map pairs uri (last_under uri pairs) refl

default_refuses : AnswersOrRefuses default_retriever
default_refuses uri = inr (codes "Default retriever does not fetch resources", refl)

module _ (given : Given) (each : AnswersOrRefuses given.retriever) where
  abbrev Outcome : Type 0
  Outcome = (answer : Result Layer Fault) × IsOutcome given answer

  -- an outcome of each run that may take so many documents more
  abbrev Ends : ℕ → Type 0
  Ends left = (n : ℕ) (layer : Layer) → n + left ≡ given.limit → IsRun given n layer → Outcome

  -- by the faults and open wants of the run's layer
  by_faults : (n : ℕ) (layer : Layer) → IsRun given n layer → n ≤ given.limit → (faults layer ≡ [] → Outcome) → (rs : List Refusal) → faults layer ≡ rs → Outcome
  by_faults n layer run within next [] clean = next clean
  by_faults n layer run within next (refusal ∷ more) first = (Err (InvalidUri refusal), faulty_run n layer refusal more run within first)

  by_wants : (n : ℕ) (layer : Layer) → IsRun given n layer → n ≤ given.limit → faults layer ≡ [] → ((want : Want) (more : List Want) → open_wants (layer ∷ given.parents) layer ≡ want ∷ more → Outcome)
      → (ws : List Want) → open_wants (layer ∷ given.parents) layer ≡ ws → Outcome
  by_wants n layer run within clean next [] shut = (Ok layer, ready_run n layer run within clean shut)
  by_wants n layer run within clean next (want ∷ more) unmet = next want more unmet

  by_answer : (left : ℕ) → Ends left → (n : ℕ) (layer : Layer) (want : Want) (more : List Want) → n + suc left ≡ given.limit → IsRun given n layer → faults layer ≡ [] → open_wants (layer ∷ given.parents) layer ≡ want ∷ more
      → ((tree : Data) × given.retriever.may_answer want.uri tree) ⊎ ((text : List ℕ) × given.retriever.may_refuse want.uri text) → Outcome
  by_answer left next n layer want more sum run clean unmet (inl (tree, answered)) =
      next (suc n) (layer ++ document given.draft want.uri tree ∷ []) (omega (arith, sum)) (retrieved_run n layer want more tree run clean unmet answered)
  by_answer left next n layer want more sum run clean unmet (inr (text, may)) =
      (Err (refusal_fault want.cause want.uri text), refused_run n layer want more text run (omega (arith, sum)) clean unmet may)

  ends : (left : ℕ) → Ends left
  ends zero n layer sum run =
      let within : n ≤ given.limit = omega (arith, sum) in
      let whole : n ≡ given.limit = omega (arith, sum) in
      by_faults n layer run within
      (λ clean. by_wants n layer run within clean
      (λ want more unmet. (Err (RetrievalLimit want.uri given.limit), limited_run layer want more (subst (λ k. IsRun given k layer) whole run) clean unmet))
      (open_wants (layer ∷ given.parents) layer) refl)
      (faults layer) refl
  ends (suc left) n layer sum run =
      let within : n ≤ given.limit = omega (arith, sum) in
      by_faults n layer run within
      (λ clean. by_wants n layer run within clean
      (λ want more unmet. by_answer left (ends left) n layer want more sum run clean unmet (each want.uri))
      (open_wants (layer ∷ given.parents) layer) refl)
      (faults layer) refl

  some_outcome : Outcome
  some_outcome = ends given.limit 0 given.documents (omega arith) begun

-- ---- worlds

some_world : (given : List Pending → Given) (pending : Result (List Pending) Refusal) → ((ps : List Pending) → AnswersOrRefuses (given ps).retriever) → (world : Result World Fault) × IsWorld given pending world
some_world given (Ok ps) each = let (answer, outcome) = some_outcome (given ps) (each ps) in (above_parents (given ps).parents answer, (answer, outcome, refl))
some_world given (Err refusal) each = (Err (InvalidUri refusal), refl)

some_parents : (meta : Option (List Document)) → (parents : Result World Fault) × AreParents meta parents
some_parents None = (Ok [], refl)
some_parents (Some ds) = some_world given_of_meta_schemas (pending_of ds) (λ ps. default_refuses)

-- ---- reports

report_above : (r : Request) (parents : Result World Fault) → (report : Report) × IsReportAbove r parents report
report_above r (Ok parents) =
    let (world, is) = some_world (given_of_request r parents) (pending_of r.documents) (λ ps. map_answers_or_refuses (unwrap_or r.remote [])) in
    (world_report r world, (world, is, refl))
report_above r (Err fault) = (fault_report (codes "meta") fault, refl)

pub some_report : (read : Result Request BadRequest) → (report : Report) × IsReadReport read report
some_report (Ok r) = let (parents, are) = some_parents r.meta in let (report, is) = report_above r parents in (report, (parents, are, is))
some_report (Err bad) = (bad_report bad, refl)
