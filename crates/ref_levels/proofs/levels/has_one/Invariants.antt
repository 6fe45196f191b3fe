use Rattle.std.proofs.Common.{◌≡◌, map, drop}
use Rattle.std.specs.List.{list_any}
use Rattle.ref_levels.specs.Levels.{FileChoices, sets}
use Rattle.ref_levels.specs.View.{file_choices}
use Rattle.ref_levels.proofs.levels.has_one.Given as goal

abbrev pub invariant-loop-one : goal.invariant-loop-one
invariant-loop-one l =
    list_any (λ (o : FileChoices). sets o.choices l.code) (map file_choices (drop l.one-index l.overrides)) ≡ list_any (λ (o : FileChoices). sets o.choices l.code) (map file_choices l.overrides)
