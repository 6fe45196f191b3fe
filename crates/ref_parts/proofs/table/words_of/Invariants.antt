use Rattle.std.proofs.Common.{◌≡◌, take}
use Rattle.ref_parts.specs.inner.SortedEntries.{words_of}
use Rattle.ref_parts.proofs.table.words_of.Given as goal

abbrev pub invariant-loop-slot : goal.invariant-loop-slot
invariant-loop-slot g l = l.words.items ≡ words_of (take l.slot-index l.slots)
