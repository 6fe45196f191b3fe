use Rattle.std.proofs.Common.{rules, ◌≡◌, ◌∙◌, ℕ, List, ◌++◌, length, map, take, drop, sym, ap, subst}
use Rattle.std.specs.List.{All}
use Rattle.ref_parts.specs.inner.SortedEntries.{IsWithin, entries_in, slot_after}
use Rattle.ref_parts.specs.declared.table.Slot.{Slot}
use Rattle.ref_parts.proofs.BufferLaws.{within_grown, entries_grown, entries_joined, within_joined}
use Rattle.ref_parts.proofs.TableLaws.{refilled}
use Rattle.ref_parts.proofs.table.TableEntries.append.Goals as goal

-- where texts and moved slots are put after others, each slot is within the texts, and the entries are those of both
joined : {V : Type 0} (texts other texts' read : List ℕ) (slots others old new given slots' : List (Slot V)) (n before : ℕ)
    → texts' ≡ texts ++ read → read ≡ other → slots' ≡ slots ++ take n (new ++ drop (length new) old) → length new ≡ n → new ≡ map (slot_after before) given → given ≡ others → before ≡ length texts
    → All (IsWithin texts) slots → All (IsWithin other) others → All (IsWithin texts') slots' × (entries_in texts' slots' ≡ entries_in texts slots ++ entries_in other others)
joined texts other texts' read slots others old new given slots' n before grown is more same changed are at within also =
    let now : texts' ≡ texts ++ other = grown ∙ ap (λ t. texts ++ t) is in
    let all : slots' ≡ slots ++ map (slot_after (length texts)) others =
    more ∙ ap (λ l. slots ++ l) (refilled n old new same ∙ changed ∙ ap (map (slot_after before)) are) ∙ ap (λ k. slots ++ map (slot_after k) others) at in (
      subst (λ t. All (IsWithin t) slots') (sym now) (subst (All (IsWithin (texts ++ other))) (sym all) (within_joined texts other slots others within also)),
      ap (entries_in texts') all ∙ ap (λ t. entries_in t (slots ++ map (slot_after (length texts)) others)) now ∙ entries_joined texts other slots others within,
    )

pub returns-in_err-append-clause-err : goal.returns-in_err-append-clause-err
returns-in_err-append-clause-err g c =
    let texts = c.self.inside.texts.items in
    let slots = c.self.inside.slots.items in
    let grown : c.extend_from_slice.new.self.items ≡ texts ++ c.as_slice.result.now = search rules in
    let kept : c.append.new.self.items ≡ slots = search rules in
    let same : entries_in c.extend_from_slice.new.self.items c.append.new.self.items ≡ c.args.self.now =
    ap (entries_in c.extend_from_slice.new.self.items) kept ∙ ap (λ t. entries_in t slots) grown ∙ entries_grown texts c.as_slice.result.now slots c.self.invariant ∙ c.self.view_is in
    search (same, rules)

pub invariant_of-self-2 : goal.invariant_of-self-2
invariant_of-self-2 g c =
    (joined c.self.inside.texts.items c.other.inside.texts.items _ _ c.self.inside.slots.items c.other.inside.slots.items _ c.move_after.new.slots _ _ _ c.len-before.result
    c.in_ok-extend_from_slice.ensures.items c.as_slice.ensures.value c.in_ok-append.ensures.items (c.move_after.ensures.len ∙ c.as_mut_slice.ensures.len) c.move_after.ensures.value c.as_mut_slice.ensures.value (search rules) c.self.invariant c.other.invariant).0

pub returns-clause-value : goal.returns-clause-value
returns-clause-value g c =
    (joined c.self.inside.texts.items c.other.inside.texts.items _ _ c.self.inside.slots.items c.other.inside.slots.items _ c.move_after.new.slots _ _ _ c.len-before.result
    c.in_ok-extend_from_slice.ensures.items c.as_slice.ensures.value c.in_ok-append.ensures.items (c.move_after.ensures.len ∙ c.as_mut_slice.ensures.len) c.move_after.ensures.value c.as_mut_slice.ensures.value (search rules) c.self.invariant c.other.invariant).1
    ∙ ap (λ l. l ++ entries_in c.other.inside.texts.items c.other.inside.slots.items) c.self.view_is ∙ ap (λ l. c.args.self.now ++ l) c.other.view_is

pub invariant_of-self : goal.invariant_of-self
invariant_of-self g c =
    let same : c.extend_from_slice.new.self.items ≡ c.self.inside.texts.items = search rules in
    subst (λ t. All (IsWithin t) c.self.inside.slots.items) (sym same) c.self.invariant

pub move_after-requires : goal.move_after-requires
move_after-requires g c = (
  c.other.inside.texts.items,
  subst (All (IsWithin c.other.inside.texts.items)) (sym c.as_mut_slice.ensures.value) c.other.invariant,
  search rules,
)

pub invariant_of-self-in_err-append : goal.invariant_of-self-in_err-append
invariant_of-self-in_err-append g c =
    let texts = c.self.inside.texts.items in
    let slots = c.self.inside.slots.items in
    let other = c.as_slice.result.now in
    let grown : c.extend_from_slice.new.self.items ≡ texts ++ other = search rules in
    let kept : c.append.new.self.items ≡ slots = search rules in
    subst (λ t. All (IsWithin t) c.append.new.self.items) (sym grown) (subst (All (IsWithin (texts ++ other))) (sym kept) (within_grown texts other slots c.self.invariant))
