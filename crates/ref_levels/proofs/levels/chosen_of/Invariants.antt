use Rattle.std.proofs.Common.{◌≡◌, map, take}
use Rattle.ref_configuration.specs.View.{rule_level}
use Rattle.ref_levels.specs.Levels.{choice_of}
use Rattle.ref_levels.specs.View.{choices_seen}
use Rattle.ref_levels.proofs.levels.chosen_of.Given as goal

abbrev pub invariant-loop-set : goal.invariant-loop-set
invariant-loop-set l = choices_seen l.choices ≡ map choice_of (map rule_level (take l.set-index l.levels))
