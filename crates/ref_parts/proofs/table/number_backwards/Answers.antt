use Rattle.std.proofs.Common.{◌≡◌, ◌<◌, ◌∙◌, length, reverse, ap, arith, slice_set, slice_index_or}
use Rattle.ref_parts.specs.declared.table.Slot.{Slot}
use Rattle.ref_parts.specs.inner.SortedEntries.{word_at, pair_of, slot_with_word}
use Rattle.ref_parts.proofs.Changing.{changed_next, length_kept}
use Rattle.ref_parts.proofs.table.number_backwards.Goals as goal

pub loop-slot-preserved : goal.loop-slot-preserved
loop-slot-preserved g c =
    let f : Slot g.row.V.Denot → Slot g.row.V.Denot = slot_with_word c.args.texts.now c.args.shared in
    let xs = c.loop-slot.slots in
    let ys = reverse c.args.slots.now in
    let i = c.loop-slot.slot-index in
    let d = c.slot-item.result in
    let s = slice_index_or xs i d in
    let within : i < length ys = omega (arith, length_kept f ys i, ap length c.loop-slot.invariant) in
    let word : c.word_at-slot.result ≡ word_at c.args.shared (pair_of c.args.texts.now s).0 = c.word_at-slot.ensures ∙ ap (word_at c.args.shared) c.text_between.ensures in
    ap (λ w. slice_set xs i record { word = w; first = s.first; second = s.second; end = s.end; value = s.value }) word ∙ changed_next f xs ys i d within c.loop-slot.invariant
