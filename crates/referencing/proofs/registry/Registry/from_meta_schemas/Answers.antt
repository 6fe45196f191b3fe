use Rattle.std.proofs.Common.{sym, subst, IfErr}
use Rattle.ref_definitions.specs.Retrievers.{default_retriever}
use Rattle.ref_index.specs.Retrieval.{IsFaultyOutcome}
use Rattle.referencing.specs.Prepared.{given_of}
use Rattle.referencing.specs.MetaSchemas.{IsMetaSchemaFault}
use Rattle.referencing.proofs.registry.Registry.from_meta_schemas.Goals as goal

pub returns-clause-fault : goal.returns-clause-fault
returns-clause-fault c =
    let (pending, is, same) = c.in_ok-builder_of.ensures.ok in
    subst (λ added. IfErr c.prepare.result (IsMetaSchemaFault added)) (sym is)
    (subst (λ b. IfErr c.prepare.result (IsFaultyOutcome (given_of default_retriever b))) same c.prepare.ensures.fault)
