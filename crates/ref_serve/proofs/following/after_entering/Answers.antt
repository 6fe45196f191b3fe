use Rattle.ref_draft.specs.Views.{resource_ref}
use Rattle.ref_resolver.specs.Resolving.{resolver_of, world_of}
use Rattle.ref_serve.specs.inner.Steps.{followed_view}
use Rattle.ref_serve.proofs.Steps.{entered}
use Rattle.ref_serve.proofs.following.after_entering.Goals as goal

pub returns-clause-gives : goal.returns-clause-gives
returns-clause-gives c =
    let subresource = resource_ref c.args.resource in
    let r = resolver_of c.in_ok-resolver.resolver in
    entered (world_of c.args.followed.resolver) (followed_view c.args.followed) subresource.draft subresource.contents r c.in_ok-resolver.ensures.gives
