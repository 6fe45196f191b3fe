use Rattle.std.proofs.Common.{◌≡◌, [], ◌∷◌, Ok, sym, subst, rules, ◌∙◌}
use Rattle.ref_definitions.specs.Anchors.{Named}
use Rattle.ref_resolver.specs.inner.Located.{IsLocated}
use Rattle.ref_resolver.specs.inner.Scoped.{dynamic_under, IsOutermost}
use Rattle.ref_resolver.specs.Resolving.{resolver_of, world_of}
use Rattle.ref_resolver.proofs.Scoping.{found_at_end, found_nowhere}
use Rattle.ref_resolver.proofs.fragment.outermost.Goals as goal

pub returns-in_default-clause-ok : goal.returns-in_default-clause-ok
returns-in_default-clause-ok c = λ n is.
    let w = world_of c.args.resolver.now in
    let r = resolver_of c.args.resolver.now in
    subst (λ u. IsOutermost w r n c.args.name.now u c.args.first) (sym c.deref.ensures) (found_nowhere w r c.args.name.now n c.args.first (sym c.in_default.ensures) is)

pub returns-in-Some-dynamic_place-clause-ok : goal.returns-in-Some-dynamic_place-clause-ok
returns-in-Some-dynamic_place-clause-ok c = λ n is.
    let w = world_of c.args.resolver.now in
    let name = c.args.name.now in
    let place = c.in-Some-dynamic_place.place in
    let text : c.as_str.result.now ≡ c.in-Some.end.now = search rules in
    let there = subst (λ u. (d : Named) × (dynamic_under w u name ≡ Ok ((u, d) ∷ [])) × IsLocated place d.place) text c.in-Some-dynamic_place.ensures in
    found_at_end w (resolver_of c.args.resolver.now) name n c.in-Some.end.now place (sym c.has_slash.ensures ∙ c.if-has_slash.false) (sym c.in-Some.ensures) there
