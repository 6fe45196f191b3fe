use Rattle.std.proofs.Common.{◌≡◌, ℕ, List, [], flat_map, Ok, ap, subst, ◌∙◌, rules}
use Rattle.ref_definitions.specs.Anchors.{Named}
use Rattle.ref_definitions.specs.Lookup.{by_scope, in_scope, entry_of, outermost}
use Rattle.ref_error.specs.Errors.{IsFaultOf}
use Rattle.ref_error.proofs.Saying.{fault_as}
use Rattle.ref_resolver.specs.Resolving.{resolver_of, world_of}
use Rattle.ref_resolver.specs.inner.Scoped.{dynamic_under}
use Rattle.ref_resolver.proofs.Scoping.{from_here, turn_ended, place_stays, place_taken}
use Rattle.ref_resolver.proofs.fragment.outermost_of_all.Goals as goal

pub returns-in_err-found-clause-fault : goal.returns-in_err-found-clause-fault
returns-in_err-found-clause-fault c = λ n is.
    let r = resolver_of c.args.resolver.now in
    let w = world_of c.args.resolver.now in
    let name = c.args.name.now in
    let outer = c.in-Some.outer.now in
    let (m, same, at, means, last) = c.loop-outer.invariant.0 n is in
    let uri : c.as_str.result.now ≡ outer = search rules in
    let fault = fault_as (dynamic_under w outer name) (by_scope r n (in_scope w name r.scope)) c.in_err-found.field-0.0 (λ f is. same ∙ turn_ended w r name (c.loop-outer.uri.now, m) outer c.loop-outer.outer-iterator c.next.new.self c.in-Some.ensures.steps f is) (subst (λ u. IsFaultOf (dynamic_under w u name) c.in_err-found.field-0.0) uri c.in_err-found.ensures.fault) in
    search rules

pub loop-outer-preserved-in-Some-2 : goal.loop-outer-preserved-in-Some-2
loop-outer-preserved-in-Some-2 c = (
  λ n is.
      let outer = c.in-Some.outer.now in
      let uri : c.as_str.result.now ≡ outer = search rules in
      let found = rw (c.in-Some-2.is, uri) at c.in_ok-found.ensures.ok in
      place_taken (world_of c.args.resolver.now) (resolver_of c.args.resolver.now) c.args.name.now n c.loop-outer.uri.now outer c.loop-outer.outer-iterator c.next.new.self c.loop-outer.place c.in-Some-2.found c.in-Some.ensures.steps found
      (c.loop-outer.invariant.0 n is),
  tt,
  tt,
)

pub loop-outer-preserved : goal.loop-outer-preserved
loop-outer-preserved c = (
  λ n is.
      let w = world_of c.args.resolver.now in
      let outer = c.in-Some.outer.now in
      let uri : c.as_str.result.now ≡ outer = search rules in
      let none : dynamic_under w outer c.args.name.now ≡ Ok [] = search rules in
      place_stays w (resolver_of c.args.resolver.now) c.args.name.now n c.loop-outer.uri.now outer c.loop-outer.outer-iterator c.next.new.self c.loop-outer.place c.in-Some.ensures.steps none (c.loop-outer.invariant.0 n is),
  tt,
  tt,
)

pub returns-clause-ok : goal.returns-clause-ok
returns-clause-ok c = λ n is.
    let r = resolver_of c.args.resolver.now in
    let w = world_of c.args.resolver.now in
    let (m, same, at, means, last) = c.loop-outer.invariant.0 n is in
    let left = ap (λ xs. from_here r (c.loop-outer.uri.now, m) (in_scope w c.args.name.now xs)) c.in-None.ensures.steps.0 in
    let entries = ap (λ xs. outermost (c.loop-outer.uri.now, m) (flat_map entry_of (in_scope w c.args.name.now xs))) c.in-None.ensures.steps.0 in
    (m, same ∙ left, at, means, ap (λ (x : List ℕ × Named). x.0) (last ∙ entries))
