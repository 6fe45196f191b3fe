use Rattle.std.proofs.Common.{◌∙◌, map, sym, ap, subst}
use Rattle.std.specs.List.{All}
use Rattle.ref_parts.specs.Table.{texts_of, with_value}
use Rattle.ref_parts.specs.inner.SortedEntries.{IsWithin, entries_in, place_of, slot_with_value}
use Rattle.ref_parts.proofs.BufferLaws.{within_kept, texts_kept, entries_revalued}
use Rattle.ref_parts.proofs.TableLaws.{refilled}
use Rattle.ref_parts.proofs.table.TableEntries.change_values.Goals as goal

pub invariant_of-self : goal.invariant_of-self
invariant_of-self g c =
    let texts = c.self.inside.texts.items in
    let new = c.change_each.new.slots in
    let all = refilled _ c.self.inside.slots.items new (c.change_each.ensures.len ∙ c.as_mut_slice.ensures.len) in
    subst (All (IsWithin texts)) (sym all) (within_kept texts new c.self.inside.slots.items (c.change_each.ensures.places ∙ ap (map place_of) c.as_mut_slice.ensures.value) c.self.invariant)

pub returns-clause-texts : goal.returns-clause-texts
returns-clause-texts g c =
    let texts = c.self.inside.texts.items in
    let new = c.change_each.new.slots in
    let all = refilled _ c.self.inside.slots.items new (c.change_each.ensures.len ∙ c.as_mut_slice.ensures.len) in
    ap (λ l. map texts_of (entries_in texts l)) all
    ∙ texts_kept texts new c.self.inside.slots.items (c.change_each.ensures.places ∙ ap (map place_of) c.as_mut_slice.ensures.value)
    ∙ ap (map texts_of) c.self.view_is

pub returns-clause-value : goal.returns-clause-value
returns-clause-value g c = λ h by.
    let texts = c.self.inside.texts.items in
    let new = c.change_each.new.slots in
    let all = refilled _ c.self.inside.slots.items new (c.change_each.ensures.len ∙ c.as_mut_slice.ensures.len) in
    ap (entries_in texts) (all ∙ c.change_each.ensures.value h by ∙ ap (map (slot_with_value h)) c.as_mut_slice.ensures.value)
    ∙ entries_revalued texts h c.self.inside.slots.items ∙ ap (map (with_value h)) c.self.view_is
