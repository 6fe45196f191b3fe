use Rattle.std.proofs.Common.{rules, ◌≡◌, ◌<◌, length, None, Some, ap, ◌∙◌, refl, arith, slice_index_or, option_map}
use Rattle.ref_parts.specs.inner.Slots.{entries_of}
use Rattle.ref_parts.proofs.MapLaws.{length-pairs}
use Rattle.ref_parts.proofs.LentLaws.{slot_pair, slot_holds}
use Rattle.ref_parts.proofs.small_map.value_at.Goals as goal

pub slot_value-requires : goal.slot_value-requires
slot_value-requires g c =
    let slots = c.in-Small.slots.items in
    let form = rw c.in-Small.is at c.requires.form in
    let within : c.args.place < length slots = omega (arith, c.requires.within, ap (λ f. length (entries_of f)) c.in-Small.is, length-pairs slots form.0) in
    let holds = slot_holds slots c.args.place form.0 within in
    rw c.in-Small.is (search rules, (within, holds))

pub returns-in-Small : goal.returns-in-Small
returns-in-Small g c =
    let slots = c.in-Small.slots.items in
    let form = rw c.in-Small.is at c.requires.form in
    let within : c.args.place < length slots = omega (arith, c.requires.within, ap (λ f. length (entries_of f)) c.in-Small.is, length-pairs slots form.0) in
    let got : option_map (λ e. e.1) (slice_index_or slots c.args.place None) ≡ Some c.slot_value.result.now = rw c.in-Small.is at c.slot_value.ensures.value in
    rw c.in-Small.is ((refl, λ w. refl), record { writes_back = tt; value = ap (option_map (λ e. e.1)) (slot_pair slots c.args.place form.0 within) ∙ got })
