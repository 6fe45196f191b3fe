use Rattle.std.proofs.Common.{rules, ◌≡◌, ◌∙◌, ℕ, ◌+◌, List, ◌++◌, ◌∷◌, [], length, ap, sym, subst}
use Rattle.std.specs.List.{All}
use Rattle.ref_parts.specs.inner.SortedEntries.{IsWithin, entries_in}
use Rattle.ref_parts.specs.declared.table.Slot.{Slot}
use Rattle.ref_parts.proofs.BufferLaws.{within_grown, entries_grown, within_added, entries_added}
use Rattle.ref_parts.proofs.table.TableEntries.push.Goals as goal

-- where two texts more are in the buffer and the slots stay, these are within the buffer, and the entries stay
unchanged : {V : Type 0} (texts first second texts' : List ℕ) (slots slots' : List (Slot V)) → texts' ≡ (texts ++ first) ++ second → slots' ≡ slots → All (IsWithin texts) slots
    → All (IsWithin texts') slots' × (entries_in texts' slots' ≡ entries_in texts slots)
unchanged texts first second texts' slots slots' grown kept within =
    let once = within_grown texts first slots within in (
      subst (λ t. All (IsWithin t) slots') (sym grown) (subst (All (IsWithin ((texts ++ first) ++ second))) (sym kept) (within_grown (texts ++ first) second slots once)),
      ap (entries_in texts') kept ∙ ap (λ t. entries_in t slots) grown ∙ entries_grown (texts ++ first) second slots once ∙ entries_grown texts first slots within,
    )

pub returns-in_err-extend_from_slice-2-clause-err :
    goal.returns-in_err-extend_from_slice-2-clause-err
returns-in_err-extend_from_slice-2-clause-err g c =
    let slots = c.self.inside.slots.items in
    let grown : c.extend_from_slice-2.new.self.items ≡ c.self.inside.texts.items ++ c.as_bytes.result.now = search rules in
    let same : entries_in c.extend_from_slice-2.new.self.items slots ≡ c.args.self.now =
    ap (λ t. entries_in t slots) grown ∙ entries_grown c.self.inside.texts.items c.as_bytes.result.now slots c.self.invariant ∙ c.self.view_is in
    search (same, rules)

pub returns-in_err-push-clause-err : goal.returns-in_err-push-clause-err
returns-in_err-push-clause-err g c =
    let same = (unchanged c.self.inside.texts.items c.as_bytes.result.now c.as_bytes-2.result.now c.extend_from_slice-2.new.self.items c.self.inside.slots.items c.push.new.self.items (search rules) (search rules) c.self.invariant).1 ∙ c.self.view_is in
    search (same, rules)

pub invariant_of-self-2 : goal.invariant_of-self-2
invariant_of-self-2 g c =
    let texts = c.self.inside.texts.items in
    let slots = c.self.inside.slots.items in
    let first = c.args.first.now in
    let second = c.args.second.now in
    let added : Slot g.row.V.Denot = record { word = 0; first = c.len-at.result; second = c.len-middle.result; end = c.len.result; value = c.args.value } in
    let grown : (texts ++ first) ++ second ≡ c.extend_from_slice-2.new.self.items = search rules in
    let more : slots ++ added ∷ [] ≡ c.push.new.self.items = search rules in
    let begins : c.len-at.result ≡ length texts = search rules in
    let turns : c.len-middle.result ≡ length texts + length first = search rules in
    let ends : c.len.result ≡ length texts + length first + length second = search rules in
    subst (λ t. All (IsWithin t) c.push.new.self.items) grown (subst (All (IsWithin ((texts ++ first) ++ second))) more (within_added slots added texts first second c.utf8.first c.utf8.second c.self.invariant begins turns ends))

pub returns-clause-value : goal.returns-clause-value
returns-clause-value g c =
    let texts = c.self.inside.texts.items in
    let slots = c.self.inside.slots.items in
    let first = c.args.first.now in
    let second = c.args.second.now in
    let added : Slot g.row.V.Denot = record { word = 0; first = c.len-at.result; second = c.len-middle.result; end = c.len.result; value = c.args.value } in
    let grown : c.extend_from_slice-2.new.self.items ≡ (texts ++ first) ++ second = search rules in
    let more : c.push.new.self.items ≡ slots ++ added ∷ [] = search rules in
    let begins : c.len-at.result ≡ length texts = search rules in
    let turns : c.len-middle.result ≡ length texts + length first = search rules in
    let ends : c.len.result ≡ length texts + length first + length second = search rules in
    ap (entries_in c.extend_from_slice-2.new.self.items) more ∙ ap (λ t. entries_in t (slots ++ added ∷ [])) grown
    ∙ entries_added slots added texts first second c.self.invariant begins turns ends
    ∙ ap (λ l. l ++ (first, second, c.args.value) ∷ []) c.self.view_is

pub invariant_of-self : goal.invariant_of-self
invariant_of-self g c =
    let texts = c.self.inside.texts.items in
    let same : c.extend_from_slice.new.self.items ≡ texts = search rules in
    subst (λ t. All (IsWithin t) c.self.inside.slots.items) (sym same) c.self.invariant

pub invariant_of-self-in_err-extend_from_slice-2 : goal.invariant_of-self-in_err-extend_from_slice-2
invariant_of-self-in_err-extend_from_slice-2 g c =
    let texts = c.self.inside.texts.items in
    let slots = c.self.inside.slots.items in
    let first = c.as_bytes.result.now in
    let grown : c.extend_from_slice-2.new.self.items ≡ texts ++ first = search rules in
    subst (λ t. All (IsWithin t) slots) (sym grown) (within_grown texts first slots c.self.invariant)

pub invariant_of-self-in_err-push : goal.invariant_of-self-in_err-push
invariant_of-self-in_err-push g c =
    (unchanged c.self.inside.texts.items c.as_bytes.result.now c.as_bytes-2.result.now c.extend_from_slice-2.new.self.items c.self.inside.slots.items c.push.new.self.items (search rules) (search rules) c.self.invariant).0
