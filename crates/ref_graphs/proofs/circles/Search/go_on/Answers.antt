use Rattle.std.proofs.Common.{◌≡◌, ◌∙◌, ◌<◌, ap, sym, subst, refl, map, get_or, None, vec_len}
use Rattle.std.specs.Prelude.{slice_get}
use Rattle.std.proofs.lemmas.List.{length-map}
use Rattle.ref_graphs.specs.declared.circles.Opened.{Opened}
use Rattle.ref_graphs.specs.Views.{step_of, circle_of}
use Rattle.ref_graphs.specs.inner.Searching.{from_of, AreChains}
use Rattle.ref_graphs.specs.inner.Circling.{Trace, measure}
use Rattle.ref_graphs.proofs.Circling.{left_stack, left_holds, left_less, middle_stack, passed_stack, passed_holds, passed_less}
use Rattle.ref_graphs.proofs.circles.Search.go_on.Goals as goal

pub returns-in_ok-pass-in-Some-next-clause-stack :
    goal.returns-in_ok-pass-in-Some-next-clause-stack
returns-in_ok-pass-in-Some-next-clause-stack c =
    let S = map step_of c.args.steps.now in
    let own = c.args.self.now in
    let count = vec_len own.states in
    let a : Trace = record { states = own.states.items; stack = own.stack.items; given = own.given; list = map circle_of c.args.list.now.items } in
    let m : Trace = record { states = own.states.items; stack = c.push.new.self.items; given = own.given; list = map circle_of c.args.list.now.items } in
    let new = c.pass.new.self in
    let b : Trace = record { states = new.states.items; stack = new.stack.items; given = new.given; list = map circle_of c.pass.new.list.items } in
    let last = c.args.chains.now.last.items in
    let before = c.args.chains.now.before.items in
    let chains = subst (λ n. AreChains (from_of S) count n last before) (sym (length-map c.args.steps.now step_of)) c.requires.chains in
    let e = c.in-Some.last in
    let d : Opened = record { place = e.place; next = c.number_at-next.result; by = e.by } in
    let n = c.in-Some-next.number in
    let more : d.next ≡ get_or before n None = c.number_at-next.ensures ∙ ap (λ l. get_or l n None) c.as_slice.ensures.value in
    passed_stack count S last before m b n (slice_get S n) chains
    (middle_stack count S last before a m c.pop.new.self.items e d n chains c.requires.stack c.in-Some.ensures.items c.in-Some-next.is refl c.in_ok-push-in-Some-next.ensures.items refl more)
    c.in_ok-pass-in-Some-next.ensures.passes

pub returns-in_ok-pass-in-Some-next-clause-smaller :
    goal.returns-in_ok-pass-in-Some-next-clause-smaller
returns-in_ok-pass-in-Some-next-clause-smaller c = λ some.
    let S = map step_of c.args.steps.now in
    let own = c.args.self.now in
    let count = vec_len own.states in
    let a : Trace = record { states = own.states.items; stack = own.stack.items; given = own.given; list = map circle_of c.args.list.now.items } in
    let m : Trace = record { states = own.states.items; stack = c.push.new.self.items; given = own.given; list = map circle_of c.args.list.now.items } in
    let new = c.pass.new.self in
    let b : Trace = record { states = new.states.items; stack = new.stack.items; given = new.given; list = map circle_of c.pass.new.list.items } in
    let last = c.args.chains.now.last.items in
    let before = c.args.chains.now.before.items in
    let long = length-map c.args.steps.now step_of in
    let chains = subst (λ n. AreChains (from_of S) count n last before) (sym long) c.requires.chains in
    let e = c.in-Some.last in
    let d : Opened = record { place = e.place; next = c.number_at-next.result; by = e.by } in
    let n = c.in-Some-next.number in
    let more : d.next ≡ get_or before n None = c.number_at-next.ensures ∙ ap (λ l. get_or l n None) c.as_slice.ensures.value in
    let now = passed_stack count S last before m b n (slice_get S n) chains
    (middle_stack count S last before a m c.pop.new.self.items e d n chains c.requires.stack c.in-Some.ensures.items c.in-Some-next.is refl c.in_ok-push-in-Some-next.ensures.items refl more)
    c.in_ok-pass-in-Some-next.ensures.passes in
    subst (λ l. measure l b < measure l a) long
    (passed_less count S last before a m b c.pop.new.self.items e d n (slice_get S n) chains now c.in-Some.ensures.items c.in-Some-next.is more refl c.in_ok-push-in-Some-next.ensures.items c.in_ok-pass-in-Some-next.ensures.passes)

pub returns-in_ok-pass-in-Some-next-clause-holds :
    goal.returns-in_ok-pass-in-Some-next-clause-holds
returns-in_ok-pass-in-Some-next-clause-holds c = λ holds.
    let S = map step_of c.args.steps.now in
    let own = c.args.self.now in
    let count = vec_len own.states in
    let a : Trace = record { states = own.states.items; stack = own.stack.items; given = own.given; list = map circle_of c.args.list.now.items } in
    let m : Trace = record { states = own.states.items; stack = c.push.new.self.items; given = own.given; list = map circle_of c.args.list.now.items } in
    let new = c.pass.new.self in
    let b : Trace = record { states = new.states.items; stack = new.stack.items; given = new.given; list = map circle_of c.pass.new.list.items } in
    let last = c.args.chains.now.last.items in
    let before = c.args.chains.now.before.items in
    let chains = subst (λ n. AreChains (from_of S) count n last before) (sym (length-map c.args.steps.now step_of)) c.requires.chains in
    let e = c.in-Some.last in
    let d : Opened = record { place = e.place; next = c.number_at-next.result; by = e.by } in
    let n = c.in-Some-next.number in
    let more : d.next ≡ get_or before n None = c.number_at-next.ensures ∙ ap (λ l. get_or l n None) c.as_slice.ensures.value in
    passed_holds count S last before a m b c.pop.new.self.items e d n chains c.requires.stack holds c.in-Some.ensures.items c.in-Some-next.is refl refl more refl c.in_ok-push-in-Some-next.ensures.items refl refl
    c.in_ok-pass-in-Some-next.ensures.passes

pub returns-in-None-clause-stack : goal.returns-in-None-clause-stack
returns-in-None-clause-stack c =
    let S = map step_of c.args.steps.now in
    let own = c.args.self.now in
    let a : Trace = record { states = own.states.items; stack = own.stack.items; given = own.given; list = map circle_of c.args.list.now.items } in
    let b : Trace = record { states = c.set.new.states.items; stack = c.pop.new.self.items; given = own.given; list = map circle_of c.args.list.now.items } in
    left_stack (vec_len own.states) S a b c.pop.new.self.items c.in-Some.last c.requires.stack c.in-Some.ensures.items c.set.ensures refl

pub returns-in-None-clause-smaller : goal.returns-in-None-clause-smaller
returns-in-None-clause-smaller c = λ some.
    let S = map step_of c.args.steps.now in
    let own = c.args.self.now in
    let count = vec_len own.states in
    let a : Trace = record { states = own.states.items; stack = own.stack.items; given = own.given; list = map circle_of c.args.list.now.items } in
    let b : Trace = record { states = c.set.new.states.items; stack = c.pop.new.self.items; given = own.given; list = map circle_of c.args.list.now.items } in
    let now = left_stack count S a b c.pop.new.self.items c.in-Some.last c.requires.stack c.in-Some.ensures.items c.set.ensures refl in
    subst (λ l. measure l b < measure l a) (length-map c.args.steps.now step_of)
    (left_less count S a b c.pop.new.self.items c.in-Some.last c.requires.stack now c.in-Some.ensures.items c.set.ensures)

pub returns-in-None-clause-holds : goal.returns-in-None-clause-holds
returns-in-None-clause-holds c = λ holds.
    let S = map step_of c.args.steps.now in
    let own = c.args.self.now in
    let a : Trace = record { states = own.states.items; stack = own.stack.items; given = own.given; list = map circle_of c.args.list.now.items } in
    let b : Trace = record { states = c.set.new.states.items; stack = c.pop.new.self.items; given = own.given; list = map circle_of c.args.list.now.items } in
    left_holds (vec_len own.states) S a b c.pop.new.self.items c.in-Some.last c.requires.stack holds c.in-Some.ensures.items c.in-None.is c.set.ensures refl refl refl
