use Rattle.std.proofs.Common.{rules}
use Rattle.ref_resolver.specs.Resolving.{resolver_of as resolver_view}
use Rattle.ref_serve.specs.inner.Seen.{asked_view}
use Rattle.ref_serve.proofs.Giving.{found_as}
use Rattle.ref_serve.proofs.looking.found_object.Goals as goal

pub returns-clause-ok : goal.returns-clause-ok
returns-clause-ok c =
    let found = c.in_ok-found.found in
    let next = resolver_view c.in_ok-found.next in
    found_as (asked_view c.args.asked.now) _ _ found next _ (search rules) c.in_ok-located_object.ensures
