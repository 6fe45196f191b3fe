use Rattle.std.proofs.Common.{◌≡◌, map, take}
use Rattle.ref_configuration.specs.View.{file_rules}
use Rattle.ref_levels.specs.Levels.{said_of, says}
use Rattle.ref_levels.specs.View.{file_choices}
use Rattle.ref_levels.proofs.levels.overrides_of.Given as goal

abbrev pub invariant-loop-item : goal.invariant-loop-item
invariant-loop-item l = map said_of (map file_choices l.overrides.items) ≡ map says (map file_rules (take l.item l.all))
