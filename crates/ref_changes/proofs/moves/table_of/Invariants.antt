use Rattle.std.proofs.Common.{◌≡◌, map, take}
use Rattle.ref_changes.specs.Moves.{map_of}
use Rattle.ref_changes.specs.Views.{move_of, moves_in}
use Rattle.ref_changes.proofs.moves.table_of.Given as goal

abbrev pub invariant-loop-one : goal.invariant-loop-one
invariant-loop-one l = moves_in l.entries ≡ map_of (map move_of (take l.one-index l.moves))
