use Rattle.std.proofs.Common.{◌≡◌, ◌∙◌, sym, subst, refl, map, vec_len, arith}
use Rattle.std.proofs.lemmas.List.{length-map}
use Rattle.ref_graphs.specs.declared.circles.State.TheVariants.{New}
use Rattle.ref_graphs.specs.Views.{step_of, circle_of}
use Rattle.ref_graphs.specs.inner.Searching.{from_of, AreChains}
use Rattle.ref_graphs.specs.inner.Circling.{state_at, Trace, IsStack, Holds}
use Rattle.ref_graphs.proofs.Circling.{begun_stack, begun_holds}
use Rattle.ref_graphs.proofs.circles.Search.search_from.Goals as goal

pub search_on-requires-clause-stack : goal.search_on-requires-clause-stack
search_on-requires-clause-stack c =
    let S = map step_of c.args.steps.now in
    let own = c.args.self.now in
    let count = vec_len own.states in
    let a : Trace = record { states = own.states.items; stack = own.stack.items; given = own.given; list = map circle_of c.args.list.now.items } in
    let next = c.enter.new.self in
    let b : Trace = record { states = next.states.items; stack = next.stack.items; given = next.given; list = map circle_of c.args.list.now.items } in
    let last = c.args.chains.now.last.items in
    let before = c.args.chains.now.before.items in
    let chains = subst (λ n. AreChains (from_of S) count n last before) (sym (length-map c.args.steps.now step_of)) c.requires.chains in
    let is_new : state_at own.states.items c.args.place ≡ New = sym c.state.ensures ∙ c.in-New.is in
    let stack = begun_stack count S last before a b c.args.place 0 chains c.requires.stack is_new c.in_ok-enter.ensures.states c.in_ok-enter.ensures.opened in
    let same : vec_len next.states ≡ count = omega (arith, stack.places) in
    subst (λ n. IsStack n S b) (sym same) stack

pub returns-clause-holds : goal.returns-clause-holds
returns-clause-holds c = λ holds.
    let S = map step_of c.args.steps.now in
    let own = c.args.self.now in
    let count = vec_len own.states in
    let a : Trace = record { states = own.states.items; stack = own.stack.items; given = own.given; list = map circle_of c.args.list.now.items } in
    let next = c.enter.new.self in
    let b : Trace = record { states = next.states.items; stack = next.stack.items; given = next.given; list = map circle_of c.args.list.now.items } in
    let end = c.search_on.new.self in
    let z : Trace = record { states = end.states.items; stack = end.stack.items; given = end.given; list = map circle_of c.search_on.new.list.items } in
    let last = c.args.chains.now.last.items in
    let before = c.args.chains.now.before.items in
    let chains = subst (λ n. AreChains (from_of S) count n last before) (sym (length-map c.args.steps.now step_of)) c.requires.chains in
    let is_new : state_at own.states.items c.args.place ≡ New = sym c.state.ensures ∙ c.in-New.is in
    let stack = begun_stack count S last before a b c.args.place 0 chains c.requires.stack is_new c.in_ok-enter.ensures.states c.in_ok-enter.ensures.opened in
    let same : vec_len next.states ≡ count = omega (arith, stack.places) in
    let begun = begun_holds count S last before a b c.args.place 0 chains c.requires.stack holds c.requires.none is_new c.in_ok-enter.ensures.states c.in_ok-enter.ensures.opened c.in_ok-enter.ensures.given refl in
    subst (λ n. Holds n S z) same (c.in_ok-search_on.ensures.holds (subst (λ n. Holds n S b) (sym same) begun))
