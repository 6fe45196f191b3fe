use Rattle.std.proofs.Common.{ap}
use Rattle.ref_parts.specs.inner.Slots.{entries_of}
use Rattle.ref_parts.proofs.LentLaws.{finds_slot, finds_entry}
use Rattle.ref_parts.proofs.small_map.find.Goals as goal

pub returns-in-Small : goal.returns-in-Small
returns-in-Small g c =
    let form = rw c.in-Small.is at c.requires in
    finds_slot g.K.PartialEq.eq c.args.key.now c.args.form.now c.in-Small.slots c.as_slice.result.now c.place_of.result c.in-Small.is c.as_slice.ensures.value form.0 c.place_of.ensures

pub returns-in-Large : goal.returns-in-Large
returns-in-Large g c =
    finds_entry g.K.PartialEq.eq c.args.key.now c.args.form.now c.in-Large.map.entries c.get_index_of.result (ap entries_of c.in-Large.is) c.get_index_of.ensures.index c.get_index_of.ensures.found
