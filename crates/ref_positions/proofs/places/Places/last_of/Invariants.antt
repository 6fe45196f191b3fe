use Rattle.std.proofs.Common.{List}
use Rattle.ref_positions.specs.Parts.{Part}
use Rattle.ref_positions.specs.Places.{IsTree}
use Rattle.ref_positions.specs.Walks.{IsTable, IsCountedBelow}
use Rattle.ref_positions.proofs.places.Places.last_of.Given as goal

abbrev pub invariant-loop-number : goal.invariant-loop-number
invariant-loop-number l = (ps : List Part) → IsTree l.self → IsTable l.self l.fn.found.items ps → IsCountedBelow l.self l.found.items ps l.number
