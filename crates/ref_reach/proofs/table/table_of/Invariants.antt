use Rattle.std.proofs.Common.{◌≡◌, map, take}
use Rattle.ref_reach.specs.Places.{own_entries}
use Rattle.ref_reach.specs.Views.{place_of}
use Rattle.ref_reach.proofs.table.table_of.Given as goal

abbrev pub invariant-loop-number : goal.invariant-loop-number
invariant-loop-number l = l.entries ≡ own_entries (map place_of (take l.number l.places))
