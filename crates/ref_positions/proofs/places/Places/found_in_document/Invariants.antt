use Rattle.ref_positions.specs.Events.{ArePassed}
use Rattle.ref_positions.proofs.places.Places.found_in_document.Given as goal

abbrev pub invariant-loop-number : goal.invariant-loop-number
invariant-loop-number l = ArePassed l.document.text.now l.self l.walk l.events l.number
