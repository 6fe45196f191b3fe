use Rattle.ref_resolver.specs.Resolving.{resolver_of as resolver_view}
use Rattle.ref_serve.specs.inner.Seen.{asked_view}
use Rattle.ref_serve.proofs.Steps.{object_at, object_without}
use Rattle.ref_serve.proofs.following.followed_object.Goals as goal

pub returns-in-Some : goal.returns-in-Some
returns-in-Some c =
    object_at (asked_view c.args.asked.now) c.args.followed.now.last c.in-Some.found (resolver_view c.args.followed.now.resolver) c.located_object.result c.in-Some.is c.requires c.located_object.ensures

pub returns-in-None : goal.returns-in-None
returns-in-None c =
    object_without (asked_view c.args.asked.now) c.args.followed.now.last (resolver_view c.args.followed.now.resolver) c.resolver_object.result c.in-None.is c.resolver_object.ensures
