use Rattle.std.proofs.Common.{Ok, map, sym, subst, rules}
use Rattle.referencing.specs.MetaSchemas.{given_of_meta_schemas}
use Rattle.ref_registries.specs.Worlds.{IsWorld}
use Rattle.ref_registries.proofs.Given.{pending_seen}
use Rattle.ref_calls.specs.Given.{given_of}
use Rattle.ref_serve.specs.inner.Openings.{IsMetaWorldOr}
use Rattle.ref_serve.proofs.OpeningReads.{meta_stopped}
use Rattle.ref_serve.proofs.opening.open_meta_schemas.Goals as goal

pub returns-in-Ok : goal.returns-in-Ok
returns-in-Ok c =
    let documents = c.args.documents.items in
    subst (λ added. IsMetaWorldOr (map given_of documents) (Ok added)) (sym c.new-in-Ok.ensures.value)
    (subst (λ p. IsWorld given_of_meta_schemas p (Ok c.in-Ok.registry)) (pending_seen given_of documents) c.in-Ok.ensures.ok, search rules)

pub returns-in-Err : goal.returns-in-Err
returns-in-Err c =
    let documents = c.args.documents.items in
    meta_stopped (map given_of documents) _ c.in-Err.error c.fault_error.result c.in_field.result (pending_seen given_of documents) c.in-Err.ensures.fault c.fault_error.ensures c.in_field.ensures
