use Rattle.std.proofs.Common.{rules, ◌≡◌, ◌∙◌, ap, sym, map, option_map, Some, refl}
use Rattle.std.specs.Prelude.{slice_get}
use Rattle.ref_graphs.specs.declared.circles.State.TheVariants.{Open, Done}
use Rattle.ref_graphs.specs.Views.{step_of, circle_of}
use Rattle.ref_graphs.specs.inner.Circling.{state_at, Trace}
use Rattle.ref_graphs.proofs.Circling.{got, passes_to}
use Rattle.std.proofs.lemmas.Option.{slice_get-map}
use Rattle.ref_graphs.proofs.circles.Search.pass.Goals as goal

pub returns-in_ok-close-in-Open : goal.returns-in_ok-close-in-Open
returns-in_ok-close-in-Open c =
    let S = map step_of c.args.steps.now in
    let s = step_of c.in-Some.step.now in
    let a : Trace = record { states = c.args.self.now.states.items; stack = c.args.self.now.stack.items; given = c.args.self.now.given; list = map circle_of c.args.list.now.items } in
    let new = c.close.new.self in
    let b : Trace = record { states = new.states.items; stack = new.stack.items; given = new.given; list = map circle_of c.close.new.list.items } in
    let there : slice_get c.args.steps.now c.args.number ≡ Some c.in-Some.step.now = sym (got c.args.steps.now c.args.number c.get.result c.get.ensures.lookup) ∙ search rules in
    let is_step : slice_get S c.args.number ≡ Some s = slice_get-map step_of c.args.steps.now c.args.number ∙ ap (option_map step_of) there in
    let is_state : state_at a.states s.to ≡ Open c.in-Open.depth = search rules in
    record {
      passes = passes_to c.args.chains.now.last.items c.args.number (slice_get S c.args.number) s (Open c.in-Open.depth) a b is_step is_state
          (search rules, search rules, c.in_ok-close-in-Open.ensures.closes);
    }

pub returns-in-Done : goal.returns-in-Done
returns-in-Done c =
    let S = map step_of c.args.steps.now in
    let s = step_of c.in-Some.step.now in
    let a : Trace = record { states = c.args.self.now.states.items; stack = c.args.self.now.stack.items; given = c.args.self.now.given; list = map circle_of c.args.list.now.items } in
    let there : slice_get c.args.steps.now c.args.number ≡ Some c.in-Some.step.now = sym (got c.args.steps.now c.args.number c.get.result c.get.ensures.lookup) ∙ search rules in
    let is_step : slice_get S c.args.number ≡ Some s = slice_get-map step_of c.args.steps.now c.args.number ∙ ap (option_map step_of) there in
    let is_state : state_at a.states s.to ≡ Done = search rules in
    record { passes = passes_to c.args.chains.now.last.items c.args.number (slice_get S c.args.number) s Done a a is_step is_state (refl, refl, refl, refl) }
