use Rattle.std.proofs.Common.{◌≡◌, Some, subst, IfOk}
use Rattle.ref_definitions.specs.World.{World}
use Rattle.ref_definitions.specs.Lookup.{Resolver as Start, moved_resolver, named_found}
use Rattle.ref_error.specs.Errors.{Gives}
use Rattle.ref_resolver.specs.Locations.{IsValueAt, anchor_spot, naming_uri, location_view}
use Rattle.ref_resolver.specs.Resolving.{resolver_of, world_of, found_of}
use Rattle.ref_resolver.proofs.Naming.{moved_anchor}
use Rattle.ref_resolver.proofs.resolver.Resolver.located_dynamic.Goals as goal

pub returns-clause-gives : goal.returns-clause-gives
returns-clause-gives c = λ n name dynamic at means.
    let w = world_of c.args.self.now in
    let r = moved_resolver (resolver_of c.args.self.now) c.args.uri.value in
    let there = c.in_ok-resolver.resolver in
    let world = c.in_ok-resolver.ensures.world in
    let moved = c.in_ok-resolver.ensures.resolver in
    let first = moved_anchor (world_of there) w (resolver_of there) r c.args.name.now n world moved means in
    subst (λ (s : Start). Gives (λ f. found_of f.0) (named_found w s n n.kind) c.located_by_scope-located.result) moved
    (subst (λ (v : World). Gives (λ f. found_of f.0) (named_found v (resolver_of there) n n.kind) c.located_by_scope-located.result) world (c.located_by_scope-located.ensures.gives n name dynamic at first))

pub returns-clause-there : goal.returns-clause-there
returns-clause-there c =
    subst (λ (v : World). IfOk c.located_by_scope-located.result (λ f. IsValueAt v f.1 (found_of f.0).value)) c.in_ok-resolver.ensures.world c.located_by_scope-located.ensures.there

pub returns-clause-spot : goal.returns-clause-spot
returns-clause-spot c = λ n name dynamic at means.
    let w = world_of c.args.self.now in
    let r = moved_resolver (resolver_of c.args.self.now) c.args.uri.value in
    let there = c.in_ok-resolver.resolver in
    let world = c.in_ok-resolver.ensures.world in
    let moved = c.in_ok-resolver.ensures.resolver in
    let first = moved_anchor (world_of there) w (resolver_of there) r c.args.name.now n world moved means in
    subst (λ (s : Start). IfOk c.located_by_scope-located.result (λ f. anchor_spot w (naming_uri w s n n.kind) c.args.name.now ≡ Some (location_view f.1))) moved
    (subst (λ (v : World). IfOk c.located_by_scope-located.result (λ f. anchor_spot v (naming_uri v (resolver_of there) n n.kind) c.args.name.now ≡ Some (location_view f.1))) world (c.located_by_scope-located.ensures.spot n name dynamic at first))
