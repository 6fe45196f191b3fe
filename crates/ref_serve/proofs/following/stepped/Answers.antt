use Rattle.std.proofs.Common.{None, Some}
use Rattle.ref_resolver.specs.Resolving.{resolver_of, world_of}
use Rattle.ref_serve.specs.inner.Seen.{answer_at}
use Rattle.ref_serve.proofs.Steps.{gives_looked_up}
use Rattle.ref_serve.proofs.following.stepped.Goals as goal

pub returns-in-Lookup-clause-gives : goal.returns-in-Lookup-clause-gives
returns-in-Lookup-clause-gives c =
    rw c.in-Lookup.is (gives_looked_up c.looked_up.result (answer_at (world_of c.args.followed.resolver) (resolver_of c.args.followed.resolver) (Some c.in-Lookup.reference.now)) c.looked_up.ensures.ok c.looked_up.ensures.fault)

pub returns-in-Recursive-clause-gives : goal.returns-in-Recursive-clause-gives
returns-in-Recursive-clause-gives c =
    rw c.in-Recursive.is (gives_looked_up c.looked_up-in-Recursive.result (answer_at (world_of c.args.followed.resolver) (resolver_of c.args.followed.resolver) None) c.looked_up-in-Recursive.ensures.ok c.looked_up-in-Recursive.ensures.fault)
