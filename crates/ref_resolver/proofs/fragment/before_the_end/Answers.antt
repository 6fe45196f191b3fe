use Rattle.std.proofs.Common.{◌≡◌, [], ◌∷◌, map, Some, Ok, sym, ap, subst, rules}
use Rattle.ref_definitions.specs.Anchors.{Named}
use Rattle.ref_resolver.specs.inner.Located.{IsLocated}
use Rattle.ref_resolver.specs.inner.Scoped.{dynamic_under, IsOutermost}
use Rattle.ref_resolver.specs.Resolving.{resolver_of, world_of}
use Rattle.ref_resolver.proofs.Scoping.{all_left, left_popped, found_popped, found_first}
use Rattle.ref_resolver.proofs.fragment.before_the_end.Goals as goal

pub loop-uri-init : goal.loop-uri-init
loop-uri-init c = (
  λ n. all_left (world_of c.args.resolver.now) (resolver_of c.args.resolver.now) c.args.name.now n (map (λ uri. uri.now) c.in_ok-uris.uris.items) c.in_ok-uris.ensures,
  c.requires.end,
)

pub loop-uri-preserved : goal.loop-uri-preserved
loop-uri-preserved c =
    let w = world_of c.args.resolver.now in
    let text : c.as_str-in-Some-2.result.now ≡ c.in-Some.uri.now = search rules in
    let none = subst (λ u. dynamic_under w u c.args.name.now ≡ Ok []) text c.in_default-dynamic_place.ensures in (
      λ n. left_popped w (resolver_of c.args.resolver.now) c.args.name.now n c.loop-uri.uris.items c.pop.new.self.items (Some c.in-Some.uri) c.in-Some.ensures.items none (c.loop-uri.invariant.0 n),
      none,
    )

pub returns-in-Some-dynamic_place-clause-ok : goal.returns-in-Some-dynamic_place-clause-ok
returns-in-Some-dynamic_place-clause-ok c = λ n is.
    let w = world_of c.args.resolver.now in
    let name = c.args.name.now in
    let place = c.in-Some-dynamic_place.place in
    let text : c.as_str-in-Some-2.result.now ≡ c.in-Some.uri.now = search rules in
    let there = subst (λ u. (d : Named) × (dynamic_under w u name ≡ Ok ((u, d) ∷ [])) × IsLocated place d.place) text c.in-Some-dynamic_place.ensures in
    found_popped w (resolver_of c.args.resolver.now) name n c.loop-uri.uris.items c.pop.new.self.items c.in-Some.uri place c.in-Some.ensures.items c.requires.plain there (c.loop-uri.invariant.0 n)

pub returns-clause-ok : goal.returns-clause-ok
returns-clause-ok c = λ n is.
    let w = world_of c.args.resolver.now in
    let r = resolver_of c.args.resolver.now in
    let name = c.args.name.now in
    let none : c.loop-uri.uris.items ≡ [] = search rules in
    subst (λ u. IsOutermost w r n name u c.args.first) (sym c.deref.ensures) (found_first w r name n (map (λ uri. uri.now) c.loop-uri.uris.items) c.args.first (ap (map (λ uri. uri.now)) none) is (c.loop-uri.invariant.0 n))
