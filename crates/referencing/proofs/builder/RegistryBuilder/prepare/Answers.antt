use Rattle.std.proofs.Common.{◌∷◌, map, Ok, ap, ◌∙◌, rules}
use Rattle.ref_definitions.specs.Preparing.{IsOutcome}
use Rattle.ref_index.specs.Retrieval.{IsFaultyOutcome}
use Rattle.referencing.specs.Builder.{builder_of}
use Rattle.referencing.specs.Prepared.{given_of}
use Rattle.referencing.proofs.Preparing.{given_by, ready_of, limit_of, memory_alone, documents_alone}
use Rattle.referencing.proofs.builder.RegistryBuilder.prepare.Goals as goal

pub returns-in_err-index-clause-limit : goal.returns-in_err-index-clause-limit
returns-in_err-index-clause-limit g c =
    let b = builder_of c.args.self in
    let e = c.in_err-index.field-0.0 in
    let fault = given_by (λ x. IsFaultyOutcome x e) (g.R.Retrieve.meaning b.retriever) b c.unwrap_or-draft.result _ _ c.unwrap_or-draft.ensures (ap (map (λ p. p.now)) c.as_slice.ensures.value) c.in_ok-documents.ensures c.in_err-index.ensures.fault in
    let used_up = limit_of (given_of (g.R.Retrieve.meaning b.retriever) b) e fault in
    search rules

pub from_index-requires : goal.from_index-requires
from_index-requires g c =
    let b = builder_of c.args.self in
    let outcome = given_by (λ x. IsOutcome x (Ok c.in_ok-index.index)) (g.R.Retrieve.meaning b.retriever) b c.unwrap_or-draft.result _ _ c.unwrap_or-draft.ensures (ap (map (λ p. p.now)) c.as_slice.ensures.value) c.in_ok-documents.ensures c.in_ok-index.ensures.outcome in
    let ready = ready_of (given_of (g.R.Retrieve.meaning b.retriever) b) c.in_ok-index.index outcome in
    (ready.no_fault, ready.no_want)

pub returns-clause-outcome : goal.returns-clause-outcome
returns-clause-outcome g c =
    let b = builder_of c.args.self in
    let outcome = given_by (λ x. IsOutcome x (Ok c.in_ok-index.index)) (g.R.Retrieve.meaning b.retriever) b c.unwrap_or-draft.result _ _ c.unwrap_or-draft.ensures (ap (map (λ p. p.now)) c.as_slice.ensures.value) c.in_ok-documents.ensures c.in_ok-index.ensures.outcome in
    (c.in_ok-index.index, outcome, ready_of (given_of (g.R.Retrieve.meaning b.retriever) b) c.in_ok-index.index outcome, c.in_ok-from_index.ensures.value)

pub returns-in_err-index-clause-alone : goal.returns-in_err-index-clause-alone
returns-in_err-index-clause-alone g c complete =
    let b = builder_of c.args.self in
    let e = c.in_err-index.field-0.0 in
    let fault = given_by (λ x. IsFaultyOutcome x e) (g.R.Retrieve.meaning b.retriever) b c.unwrap_or-draft.result _ _ c.unwrap_or-draft.ensures (ap (map (λ p. p.now)) c.as_slice.ensures.value) c.in_ok-documents.ensures c.in_err-index.ensures.fault in
    let memory = memory_alone (given_of (g.R.Retrieve.meaning b.retriever) b) e complete fault in
    search rules

pub returns-clause-alone : goal.returns-clause-alone
returns-clause-alone g c complete =
    let b = builder_of c.args.self in
    let outcome = given_by (λ x. IsOutcome x (Ok c.in_ok-index.index)) (g.R.Retrieve.meaning b.retriever) b c.unwrap_or-draft.result _ _ c.unwrap_or-draft.ensures (ap (map (λ p. p.now)) c.as_slice.ensures.value) c.in_ok-documents.ensures c.in_ok-index.ensures.outcome in
    (c.in_ok-from_index.ensures.value ∙ ap (λ layer. layer ∷ b.parents) (documents_alone (given_of (g.R.Retrieve.meaning b.retriever) b) c.in_ok-index.index complete outcome), tt)
