use Rattle.std.proofs.Common.{◌≡◌, ⊎_elim, ap, sym, subst, refl, map, replicate, vec_len, arith, rules}
use Rattle.std.proofs.lemmas.Bool.{cases_eq}
use Rattle.ref_graphs.specs.declared.circles.State.TheVariants.{New}
use Rattle.ref_graphs.specs.Views.{step_of, circle_of}
use Rattle.ref_graphs.specs.inner.Circling.{state_at, Trace, IsStack, Holds}
use Rattle.ref_graphs.proofs.Circling.{start_stack, start_holds, all_closed, all_found, all_listed}
use Rattle.ref_graphs.proofs.circles.circles_of.Goals as goal

pub loop-place-init : goal.loop-place-init
loop-place-init c =
    let S = map step_of c.args.steps.now in
    let t : Trace = record { states = c.in_ok-vec.field-0.items; stack = c.new.result.items; given = 0; list = map circle_of c.new-list.result.items } in
    let states : t.states ≡ replicate c.args.count New = c.in_ok-vec.ensures.items_if_clones_equal (λ y h. search rules) in
    record {
      places = omega (arith, (start_stack c.args.count S t states c.new.ensures.items).places);
      stack = start_stack c.args.count S t states c.new.ensures.items;
      none = c.new.ensures.items;
      holds = start_holds c.args.count S t states c.new.ensures.items refl (ap (map circle_of) c.new-list.ensures.items);
      met = λ p less. absurd (omega (arith, less));
    }

pub loop-place-preserved : goal.loop-place-preserved
loop-place-preserved c =
    let S = map step_of c.args.steps.now in
    let l = c.loop-place in
    let own = l.search in
    let a : Trace = record { states = own.states.items; stack = own.stack.items; given = own.given; list = map circle_of l.list.items } in
    let new = c.search_from.new.self in
    let b : Trace = record { states = new.states.items; stack = new.stack.items; given = new.given; list = map circle_of c.search_from.new.list.items } in
    let is = c.in_ok-search_from.ensures in
    let same : vec_len own.states ≡ c.args.count = l.invariant.places in
    record {
      places = omega (arith, is.stack.places, same);
      stack = subst (λ n. IsStack n S b) same is.stack;
      none = is.none;
      holds = subst (λ n. Holds n S b) same (is.holds (subst (λ n. Holds n S a) (sym same) l.invariant.holds));
      met = λ p less. ⊎_elim
          (λ here. subst (λ q. state_at new.states.items q ≡ New → ⊥) (sym here) is.met)
          (λ other. is.kept p (l.invariant.met p (omega (arith, less, other))))
          (cases_eq p l.place);
    }

pub returns-clause-closed : goal.returns-clause-closed
returns-clause-closed c =
    let l = c.loop-place in
    let t : Trace = record { states = l.search.states.items; stack = l.search.stack.items; given = l.search.given; list = map circle_of l.list.items } in
    all_closed c.args.count (map step_of c.args.steps.now) t l.invariant.holds

pub returns-clause-all : goal.returns-clause-all
returns-clause-all c =
    let l = c.loop-place in
    let t : Trace = record { states = l.search.states.items; stack = l.search.stack.items; given = l.search.given; list = map circle_of l.list.items } in
    all_found c.args.count (map step_of c.args.steps.now) t l.invariant.holds l.invariant.none (λ p less. l.invariant.met p (omega (arith, less, c.loop-place-test.false)))

pub returns-clause-apart : goal.returns-clause-apart
returns-clause-apart c =
    let l = c.loop-place in
    let t : Trace = record { states = l.search.states.items; stack = l.search.stack.items; given = l.search.given; list = map circle_of l.list.items } in
    (all_listed c.args.count (map step_of c.args.steps.now) t l.invariant.holds).apart

pub returns-clause-shown : goal.returns-clause-shown
returns-clause-shown c =
    let l = c.loop-place in
    let t : Trace = record { states = l.search.states.items; stack = l.search.stack.items; given = l.search.given; list = map circle_of l.list.items } in
    (all_listed c.args.count (map step_of c.args.steps.now) t l.invariant.holds).shown
