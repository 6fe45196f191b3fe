use Rattle.std.proofs.Common.{◌≡◌, map, drop, fold, length}
use Rattle.ref_levels.specs.Levels.{over}
use Rattle.ref_levels.specs.View.{set_by, file_choices}
use Rattle.ref_levels.proofs.levels.Levels.level_over.Given as goal

abbrev pub invariant-loop-number : goal.invariant-loop-number
invariant-loop-number l =
    (fold (over l.path l.code) l.level (map file_choices (drop l.number l.self.overrides.items)) ≡ fold (over l.path l.code) l.fn.first (map file_choices l.initial.self.overrides.items))
    × (set_by l.self ≡ set_by l.initial.self)
    × (length l.self.overrides.items ≡ length l.initial.self.overrides.items)
