use Rattle.std.proofs.Common.{ap, ◌∙◌}
use Rattle.referencing.specs.Builder.{builder_of, setting_draft, limited_to}
use Rattle.ref_registries.proofs.Building.{world_prepared, world_refused, given_as}
use Rattle.ref_registries.proofs.registry.registry_from.Goals as goal

pub returns-clause-ok : goal.returns-clause-ok
returns-clause-ok g c =
    let old = builder_of c.in_ok-builder.builder in
    let holds = c.in_ok-builder.ensures.ok in
    world_prepared _ _ _ old holds _
    (given_as c.args.remote c.args.limit c.args.draft _ holds.0 old (builder_of c.draft.result) holds.2
    (c.draft.ensures.value ∙ ap (setting_draft c.args.draft) (c.retrieval_limit.ensures.value ∙ ap (limited_to c.args.limit) c.retriever.ensures.value)))
    c.prepare.result c.prepare.ensures.outcome

pub returns-clause-fault : goal.returns-clause-fault
returns-clause-fault g c =
    let old = builder_of c.in_ok-builder.builder in
    let holds = c.in_ok-builder.ensures.ok in
    world_refused _ _ _ old holds _
    (given_as c.args.remote c.args.limit c.args.draft _ holds.0 old (builder_of c.draft.result) holds.2
    (c.draft.ensures.value ∙ ap (setting_draft c.args.draft) (c.retrieval_limit.ensures.value ∙ ap (limited_to c.args.limit) c.retriever.ensures.value)))
    c.prepare.result c.prepare.ensures.fault
