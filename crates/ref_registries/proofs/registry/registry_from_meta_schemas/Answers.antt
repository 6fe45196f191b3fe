use Rattle.referencing.specs.Builder.{builder_of}
use Rattle.ref_registries.proofs.Building.{world_prepared, world_refused, given_meta_schemas}
use Rattle.ref_registries.proofs.registry.registry_from_meta_schemas.Goals as goal

pub returns-clause-ok : goal.returns-clause-ok
returns-clause-ok g c =
    let b = builder_of c.in_ok-builder.builder in
    let holds = c.in_ok-builder.ensures.ok in
    world_prepared _ _ _ b holds _ (given_meta_schemas holds.0 b holds.2) c.prepare.result c.prepare.ensures.outcome

pub returns-clause-fault : goal.returns-clause-fault
returns-clause-fault g c =
    let b = builder_of c.in_ok-builder.builder in
    let holds = c.in_ok-builder.ensures.ok in
    world_refused _ _ _ b holds _ (given_meta_schemas holds.0 b holds.2) c.prepare.result c.prepare.ensures.fault
