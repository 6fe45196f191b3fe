use Rattle.std.proofs.Common.{◌≡◌, map, drop}
use Rattle.ref_messages.specs.Levels.{level_by}
use Rattle.ref_messages.specs.Views.{chosen_of}
use Rattle.ref_messages.proofs.levels.level_in.Given as goal

abbrev pub invariant-loop-chosen : goal.invariant-loop-chosen
invariant-loop-chosen l = level_by (map chosen_of l.choices) l.code l.fn.own ≡ level_by (map chosen_of (drop l.chosen-index l.choices)) l.code l.level
