use Rattle.std.proofs.Common.{◌≡◌, rules, reverse, map, ap, sym, subst, ◌∙◌, All}
use Rattle.std.specs.List.{dedup}
use Rattle.std.proofs.lemmas.Fn.{always_returns_same, dedup_same}
use Rattle.ref_parts.specs.inner.SortedEntries.{IsWithin, slot_with_word, same_slots, words_of}
use Rattle.ref_parts.proofs.TableLaws.{slot_lt, slot_lt_ranks, keeps_last, refilled}
use Rattle.ref_parts.proofs.table.TableEntries.into_table.Goals as goal

pub invariant_of-result : goal.invariant_of-result
invariant_of-result g c =
    let texts = c.self.inside.texts.items in
    let shared = c.shared_len-shared.result in
    let within : All (IsWithin texts) c.of-entered.result.value.items = subst (λ v. All (IsWithin texts) v.items) (sym c.of-entered.ensures) c.self.invariant in
    let turned : c.as_mut_slice-2.result.now ≡ map (slot_with_word texts shared) (reverse c.of-entered.result.value.items) =
    c.as_mut_slice-2.ensures.value ∙ refilled _ _ c.number_backwards.new.slots (c.number_backwards.ensures.len ∙ c.as_mut_slice.ensures.len) ∙ c.number_backwards.ensures.value
    ∙ ap (λ t. map (slot_with_word t shared) (reverse c.as_mut_slice.result.now)) c.as_slice-3.ensures.value
    ∙ ap (λ ss. map (slot_with_word texts shared) (reverse ss)) (c.as_mut_slice.ensures.value ∙ ap (λ v. v.items) (sym c.of-entered.ensures)) in (
      keeps_last texts shared c.of-entered.result.value.items c.as_mut_slice-2.result.now c.sort_by.new.self _
          within
          turned
          c.in_ok-sort_by.ensures.permutation
          (c.in_ok-sort_by.ensures.sorted (slot_lt texts) (slot_lt_ranks texts) (always_returns_same _ _ _ (λ a r f' k. search rules)))
          (c.in_ok-sort_by.ensures.stable (slot_lt texts) (slot_lt_ranks texts) (always_returns_same _ _ _ (λ a r f' k. search rules)))
          (dedup_same _ (same_slots texts) _ (λ x y b f' x' y' k. search rules) _ _ c.dedup_by.ensures.filtered ∙ ap (dedup (same_slots texts)) (refilled _ _ c.sort_by.new.self (c.in_ok-sort_by.ensures.len ∙ c.as_mut_slice-2.ensures.len))),
      c.in_ok-words_of.ensures ∙ ap words_of c.as_slice-4.ensures.value,
    )
