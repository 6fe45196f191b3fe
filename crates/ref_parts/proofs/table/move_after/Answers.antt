use Rattle.std.proofs.Common.{◌<◌, length, ap, arith}
use Rattle.ref_parts.specs.declared.table.Slot.{Slot}
use Rattle.ref_parts.specs.inner.SortedEntries.{slot_after}
use Rattle.ref_parts.proofs.Changing.{changed_next, length_kept}
use Rattle.ref_parts.proofs.table.move_after.Goals as goal

pub loop-slot-preserved : goal.loop-slot-preserved
loop-slot-preserved g c =
    let f : Slot g.row.V.Denot → Slot g.row.V.Denot = slot_after c.args.before in
    let ys = c.args.slots.now in
    let i = c.loop-slot.slot-index in
    let within : i < length ys = omega (arith, length_kept f ys i, ap length c.loop-slot.invariant) in
    changed_next f c.loop-slot.slots ys i c.slot-item.result within c.loop-slot.invariant
