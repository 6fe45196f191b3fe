use Rattle.std.proofs.Common.{◌≡◌, IfOk, Some, sym, subst, ◌∙◌}
use Rattle.ref_error.specs.Errors.{Gives}
use Rattle.ref_resolver.specs.Resolving.{resolver_of, world_of, found_of}
use Rattle.ref_resolver.specs.Locations.{lookup_location, location_view}
use Rattle.ref_resolver.proofs.resolver.Resolver.lookup_recursive_located.Goals as goal

pub returns-clause-gives : goal.returns-clause-gives
returns-clause-gives c =
    let same = c.in_ok-reference.ensures.reference ∙ sym c.in_ok-reference.ensures.gives in
    subst (λ a. Gives (λ f. found_of f.0) a c.lookup_located.result) same c.lookup_located.ensures.gives

pub returns-clause-spot : goal.returns-clause-spot
returns-clause-spot c =
    let w = world_of c.args.self.now in
    let r = resolver_of c.args.self.now in
    subst (λ t. IfOk c.lookup_located.result (λ f. lookup_location w r t ≡ Some (location_view f.1))) (sym c.in_ok-reference.ensures.text) c.lookup_located.ensures.spot
