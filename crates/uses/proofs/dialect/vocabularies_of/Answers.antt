use Rattle.std.proofs.Common.{rules, inr, subst}
use Rattle.serde_json.specs.View.{view}
use Rattle.referencing.specs.Retrievers.{default_retriever}
use Rattle.referencing.specs.Retrieval.{IsFaultyOutcome}
use Rattle.referencing.specs.Prepared.{given_of}
use Rattle.uses.specs.Uses.{IsRefusedAbove}
use Rattle.uses.proofs.dialect.vocabularies_of.Goals as goal

pub returns-in_err-child-clause-fault : goal.returns-in_err-child-clause-fault
returns-in_err-child-clause-fault c =
    let (pending, is, same) = c.in_ok-add.ensures.ok in
    let error = c.in_err-child.field-0.0 in
    let fault = subst (λ b. IsFaultyOutcome (given_of default_retriever b) error) same c.in_err-child.ensures.fault in
    let refused : IsRefusedAbove c.args.parent.now c.args.uri.now (view c.args.schema.now) error = inr (pending, is, fault) in
    search rules
