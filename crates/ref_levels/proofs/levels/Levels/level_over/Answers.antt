use Rattle.std.proofs.Common.{◌<◌, ◌∙◌, List, ap, length, length-set, rules}
use Rattle.ref_levels.specs.Levels.{FileChoices}
use Rattle.ref_levels.specs.View.{choices_seen}
use Rattle.ref_levels.proofs.Overrides.{over_step, same_set}
use Rattle.ref_levels.proofs.levels.Levels.level_over.Goals as goal

pub loop-number-preserved : goal.loop-number-preserved
loop-number-preserved c =
    let xs = c.loop-number.self.overrides.items in
    let i = c.loop-number.number in
    let o = c.index_mut.result.now in
    let m = c.level_over.new.self in
    let within : i < length xs = search rules in
    let own = c.index_mut.ensures.value in (
      over_step c.args.path.now c.args.code.now c.loop-number.level c.in_ok-level.level xs i o m within own c.in_ok-level.ensures.value ∙ c.loop-number.invariant.0,
      ap (λ (os : List FileChoices). record { first = choices_seen c.loop-number.self.first; overrides = os; last = choices_seen c.loop-number.self.last }) (same_set xs i o m within own c.in_ok-level.ensures.same)
          ∙ c.loop-number.invariant.1,
      length-set xs i m ∙ c.loop-number.invariant.2,
    )
