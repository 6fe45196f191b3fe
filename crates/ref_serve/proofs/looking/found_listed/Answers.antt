use Rattle.std.proofs.Common.{Ok, refl}
use Rattle.serde_json.specs.View.{view}
use Rattle.ref_resolver.specs.Resolving.{resolver_of as resolver_view}
use Rattle.ref_serve.specs.Results.{IsLookedUp}
use Rattle.ref_serve.specs.inner.Seen.{started}
use Rattle.ref_serve.proofs.ListOfReferences.{listed_error}
use Rattle.ref_serve.proofs.looking.found_listed.Goals as goal

pub returns-in-Ok : goal.returns-in-Ok
unfolding IsLookedUp
returns-in-Ok c = (Ok (view c.in-Ok.object), c.in-Ok.ensures, refl)

pub returns-in-Err-Because : goal.returns-in-Err-Because
unfolding IsLookedUp
returns-in-Err-Because c =
    listed_error (started c.args.asked.now (resolver_view c.args.resolver.now), c.args.reference.now) (view c.in-Err-Because.error) c.object_of.result
    (rw c.in-Err-Because.field-0-is at c.in-Err-Because.ensures) c.object_of.ensures
