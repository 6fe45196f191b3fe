use Rattle.std.proofs.Common.{◌≡◌, cond, codes, map, None, Ok, true, false, sym, ap, subst, ◌∙◌, rules}
use Rattle.std.specs.List.{take_while, last_or}
use Rattle.std.specs.Option.{unwrap_or}
use Rattle.ref_definitions.specs.Lookup.{lookup}
use Rattle.ref_definitions.specs.Recursive.{is_marked, answers_marked, lookup_recursive, outermost_marked}
use Rattle.ref_error.specs.Errors.{IsFaultOf}
use Rattle.ref_resolver.specs.Resolving.{resolver_of, world_of, found_of}
use Rattle.ref_error.proofs.Saying.{fault_as}
use Rattle.ref_resolver.proofs.Lookups.{recursive_refused, recursive_first, recursive_marked, while_step, while_ended, marked_turn, unmarked_turn, fault_turn}
use Rattle.ref_resolver.specs.Locations.{recursive_reference}
use Rattle.ref_resolver.proofs.resolver.Resolver.recursive.Goals as goal

pub returns-in_err-resolved-clause-gives : goal.returns-in_err-resolved-clause-gives
returns-in_err-resolved-clause-gives c =
    let fault = recursive_refused (world_of c.args.self.now) (resolver_of c.args.self.now) c.in_err-resolved.field-0.0 c.in_err-resolved.ensures.gives in
    search rules

pub returns-then-not-is_marked-clause-gives : goal.returns-then-not-is_marked-clause-gives
returns-then-not-is_marked-clause-gives c =
    let unmarked : is_marked (found_of c.in_ok-resolved.resolved).value ≡ false = search rules in
    recursive_first (world_of c.args.self.now) (resolver_of c.args.self.now) (found_of c.in_ok-resolved.resolved) c.in_ok-resolved.ensures.gives unmarked

pub loop-uri-init : goal.loop-uri-init
loop-uri-init c =
    let marked : is_marked (found_of c.in_ok-resolved.resolved).value ≡ true = search rules in
    let w = world_of c.args.self.now in
    let r = resolver_of c.args.self.now in
    let same = recursive_marked w r (found_of c.in_ok-resolved.resolved) c.in_ok-resolved.ensures.gives marked in
    let first : answers_marked (lookup w r (codes "#")) ≡ true = ap answers_marked c.in_ok-resolved.ensures.gives ∙ marked in
    let text : recursive_reference w r ≡ unwrap_or (last_or None (take_while (λ uri. answers_marked (lookup w r uri)) r.scope)) (codes "#") =
    ap (λ t. cond t (unwrap_or (last_or None (take_while (λ uri. answers_marked (lookup w r uri)) r.scope)) (codes "#")) (codes "#")) first in
    search rules

pub loop-uri-preserved : goal.loop-uri-preserved
loop-uri-preserved c =
    let w = world_of c.args.self.now in
    let r = resolver_of c.args.self.now in
    let first = found_of c.loop-uri.resolved in
    let marked : is_marked (found_of c.in_ok-outer.outer).value ≡ true = search rules in
    let text : c.as_str-text.result.now ≡ c.in-Some.uri.now = search rules in
    let there : lookup w r c.in-Some.uri.now ≡ Ok (found_of c.in_ok-outer.outer) = ap (lookup w r) (sym text) ∙ c.in_ok-outer.ensures.gives in (
      c.loop-uri.invariant.0
          ∙ ap (λ xs. outermost_marked (Ok first) (map (lookup w r) xs)) c.in-Some.ensures.steps
          ∙ marked_turn first (found_of c.in_ok-outer.outer) (lookup w r c.in-Some.uri.now) (map (lookup w r) c.next.new.self) there marked,
      c.in_ok-outer.ensures.gives,
      search rules,
      c.loop-uri.invariant.3 ∙ ap (λ xs. unwrap_or (last_or None (take_while (λ uri. answers_marked (lookup w r uri)) xs)) c.loop-uri.reference.now) c.in-Some.ensures.steps
          ∙ while_step (λ uri. answers_marked (lookup w r uri)) c.in-Some.uri.now c.loop-uri.reference.now c.next.new.self (ap answers_marked there ∙ marked) ∙ ap (λ t. unwrap_or (last_or None (take_while (λ uri. answers_marked (lookup w r uri)) c.next.new.self)) t) (sym text),
      search rules,
      tt,
      tt,
    )

pub returns-in_err-outer-clause-gives : goal.returns-in_err-outer-clause-gives
returns-in_err-outer-clause-gives c =
    let w = world_of c.args.self.now in
    let r = resolver_of c.args.self.now in
    let first = found_of c.loop-uri.resolved in
    let text : c.as_str-text.result.now ≡ c.in-Some.uri.now = search rules in
    let left = c.loop-uri.invariant.0 ∙ ap (λ xs. outermost_marked (Ok first) (map (lookup w r) xs)) c.in-Some.ensures.steps in
    let fault = fault_as (lookup w r c.in-Some.uri.now) (lookup_recursive w r) c.in_err-outer.field-0.0
    (λ f is. left ∙ fault_turn first f (lookup w r c.in-Some.uri.now) (map (lookup w r) c.next.new.self) is)
    (subst (λ u. IsFaultOf (lookup w r u) c.in_err-outer.field-0.0) text c.in_err-outer.ensures.gives) in
    search rules

pub returns-then-not-is_marked-2-clause-gives : goal.returns-then-not-is_marked-2-clause-gives
returns-then-not-is_marked-2-clause-gives c =
    let w = world_of c.args.self.now in
    let r = resolver_of c.args.self.now in
    let first = found_of c.loop-uri.resolved in
    let unmarked : is_marked (found_of c.in_ok-outer.outer).value ≡ false = search rules in
    let text : c.as_str-text.result.now ≡ c.in-Some.uri.now = search rules in
    let there : lookup w r c.in-Some.uri.now ≡ Ok (found_of c.in_ok-outer.outer) = ap (lookup w r) (sym text) ∙ c.in_ok-outer.ensures.gives in
    c.loop-uri.invariant.0
    ∙ ap (λ xs. outermost_marked (Ok first) (map (lookup w r) xs)) c.in-Some.ensures.steps
    ∙ unmarked_turn first (found_of c.in_ok-outer.outer) (lookup w r c.in-Some.uri.now) (map (lookup w r) c.next.new.self) there unmarked

pub returns-then-not-is_marked-clause-text : goal.returns-then-not-is_marked-clause-text
returns-then-not-is_marked-clause-text c =
    let w = world_of c.args.self.now in
    let r = resolver_of c.args.self.now in
    let unmarked : is_marked (found_of c.in_ok-resolved.resolved).value ≡ false = search rules in
    let first : answers_marked (lookup w r (codes "#")) ≡ false = ap answers_marked c.in_ok-resolved.ensures.gives ∙ unmarked in
    ap (λ t. cond t (unwrap_or (last_or None (take_while (λ uri. answers_marked (lookup w r uri)) r.scope)) (codes "#")) (codes "#")) first

pub returns-then-not-is_marked-2-clause-text : goal.returns-then-not-is_marked-2-clause-text
returns-then-not-is_marked-2-clause-text c =
    let w = world_of c.args.self.now in
    let r = resolver_of c.args.self.now in
    let unmarked : is_marked (found_of c.in_ok-outer.outer).value ≡ false = search rules in
    let text : c.as_str-text.result.now ≡ c.in-Some.uri.now = search rules in
    let there : lookup w r c.in-Some.uri.now ≡ Ok (found_of c.in_ok-outer.outer) = ap (lookup w r) (sym text) ∙ c.in_ok-outer.ensures.gives in
    c.loop-uri.invariant.3 ∙ ap (λ xs. unwrap_or (last_or None (take_while (λ uri. answers_marked (lookup w r uri)) xs)) c.loop-uri.reference.now) c.in-Some.ensures.steps
    ∙ while_ended (λ uri. answers_marked (lookup w r uri)) c.in-Some.uri.now c.loop-uri.reference.now c.next.new.self (ap answers_marked there ∙ unmarked)

pub returns-clause-text : goal.returns-clause-text
returns-clause-text c =
    let w = world_of c.args.self.now in
    let r = resolver_of c.args.self.now in
    c.loop-uri.invariant.3 ∙ ap (λ xs. unwrap_or (last_or None (take_while (λ uri. answers_marked (lookup w r uri)) xs)) c.loop-uri.reference.now) c.in-None.ensures.steps.0
