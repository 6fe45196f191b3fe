use Rattle.std.proofs.Common.{◌≡◌, map, drop}
use Rattle.ref_messages.specs.Views.{chosen_of}
use Rattle.ref_levels.specs.Levels.{sets}
use Rattle.ref_levels.proofs.levels.has.Given as goal

abbrev pub invariant-loop-chosen : goal.invariant-loop-chosen
invariant-loop-chosen l = sets (map chosen_of (drop l.chosen-index l.choices)) l.code ≡ sets (map chosen_of l.choices) l.code
