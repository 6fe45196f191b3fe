use Rattle.ref_definitions.specs.Lookup.{lookup}
use Rattle.ref_definitions.specs.Recursive.{lookup_recursive}
use Rattle.ref_resolver.specs.Resolving.{resolver_of, world_of}
use Rattle.referencing.proofs.steps.stepped.Goals as goal

pub returns-in-Lookup-clause-gives : goal.returns-in-Lookup-clause-gives
returns-in-Lookup-clause-gives c =
    let r = c.args.followed.now.resolver in
    rw c.in-Lookup.is (c.after_found.ensures.gives (lookup (world_of r) (resolver_of r) c.in-Lookup.reference.now) c.lookup.ensures.gives)

pub returns-in-Recursive-clause-gives : goal.returns-in-Recursive-clause-gives
returns-in-Recursive-clause-gives c =
    let r = c.args.followed.now.resolver in
    rw c.in-Recursive.is (c.after_found-in-Recursive.ensures.gives (lookup_recursive (world_of r) (resolver_of r)) c.lookup_recursive_ref.ensures.gives)
