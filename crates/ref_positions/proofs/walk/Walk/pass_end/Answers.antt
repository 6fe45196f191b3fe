use Rattle.std.proofs.Common.{◌≡◌, ◌∙◌, ap, sym, true, false, arith}
use Rattle.std.proofs.lemmas.Grind.{common_steps}
use Rattle.ref_positions.specs.Walks.{ends}
use Rattle.ref_positions.proofs.Walks.{end_passes, end_skips}
use Rattle.ref_positions.proofs.walk.Walk.pass_end.Goals as goal

pub returns-then-not-ends : goal.returns-then-not-ends
returns-then-not-ends c = record { passes = λ paths n before ps lt w. end_skips paths c.args.self.now n (sym c.ends.ensures.value ∙ c.if-not-ends.true) before ps w }

pub returns : goal.returns
returns c = record {
  passes = λ paths n before ps lt w.
      end_passes paths c.args.self.now c.leave.new.self c.pop-self.new.self.items c.pop-self.result n (sym c.ends.ensures.value ∙ c.if-not-ends.false) c.pop-self.ensures.items c.pop-self.ensures.variant
      (ap (λ v. v.items) c.leave.ensures.found) (λ p few lie. c.leave.ensures.coming paths p n lt few lie) before ps w;
}
