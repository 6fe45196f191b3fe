use Rattle.std.proofs.Common.{◌≡◌, ℕ, ◌-◌, ◌*◌, ◌^◌, ◌<◌, ◌≤◌, length, get_or}
use Rattle.std.specs.declared.cmp.Ordering.TheVariants.{Less, Greater}
use Rattle.ref_parts.specs.inner.SortedEntries.{key_cmp, key_of}
use Rattle.ref_parts.specs.declared.table.Slot.{Slot}
use Rattle.ref_parts.proofs.table.SortedTable.get.Given as goal

abbrev pub invariant-loop-low : goal.invariant-loop-low
invariant-loop-low g l = record {
  ordered : l.low ≤ l.high;
  within : l.high ≤ length l.self-inside.kept.items;
  below : (k : ℕ) (d : Slot g.row.V.Denot) → k < l.low → key_cmp (key_of l.self-inside.texts.items (get_or l.self-inside.kept.items k d)) (l.word, (l.first, l.second)) ≡ Less;
  above : (k : ℕ) (d : Slot g.row.V.Denot) → l.high ≤ k → k < length l.self-inside.kept.items → key_cmp (key_of l.self-inside.texts.items (get_or l.self-inside.kept.items k d)) (l.word, (l.first, l.second)) ≡ Greater;
  spent : (digits : ℕ) → length l.self-inside.kept.items < 2 ^ digits → l.probes ≤ digits;
  idle : l.probes ≡ 0 → length l.self-inside.kept.items ≤ l.high - l.low;
  left : (l.high - l.low) * 2 ^ l.probes ≤ length l.self-inside.kept.items;
}

abbrev pub decreases-loop-low : goal.decreases-loop-low
decreases-loop-low g l = l.high - l.low
