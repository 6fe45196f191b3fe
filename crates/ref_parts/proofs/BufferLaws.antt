-- Entries whose texts are in a buffer: what stays where the buffer grows, and what an entry more is.
use Rattle.std.proofs.Common.{◌≡◌, ◌∙◌, ℕ, ◌+◌, ◌-◌, ◌≤◌, List, [], ◌∷◌, ◌++◌, map, take, drop, length, refl, sym, ap, subst, arith, IsUtf8}
use Rattle.std.specs.List.{All}
use Rattle.std.proofs.Math.Seq.{drop-append-add, drop-append_seam}
use Rattle.std.proofs.lemmas.List.{map-append, take-append-le, take_all, drop-append-le, length-append, length-drop}
use Rattle.std.proofs.lemmas.List.Elements.{All-head, All-tail, All-nil, All-cons, All-append}
use Rattle.ref_parts.specs.Table.{texts_of, with_value}
use Rattle.ref_parts.specs.declared.table.Slot.{Slot}
use Rattle.ref_parts.specs.inner.SortedEntries.{text_between, entry_in, entries_in, slot_after, place_of, slot_with_value, IsWithin}

-- what follows a part changes nothing of it
text_grown : (from to : ℕ) (texts more : List ℕ) → from ≤ to → to ≤ length texts → text_between from to (texts ++ more) ≡ text_between from to texts
text_grown from to texts more ordered within =
    ap (take (to - from)) (drop-append-le from texts more (omega arith))
    ∙ take-append-le (to - from) (drop from texts) more (omega (arith, length-drop from texts))

-- what is before the buffer moves its parts
text_moved : (from to : ℕ) (before texts : List ℕ) → text_between (from + length before) (to + length before) (before ++ texts) ≡ text_between from to texts
text_moved from to before texts =
    ap (λ n. take ((to + length before) - (from + length before)) (drop n (before ++ texts))) (omega arith)
    ∙ ap (take ((to + length before) - (from + length before))) (drop-append-add before texts from)
    ∙ ap (λ n. take n (drop from texts)) (omega arith)

-- a part that ends the buffer
text_at_end : (from to : ℕ) (before text : List ℕ) → from ≡ length before → to ≡ length before + length text → text_between from to (before ++ text) ≡ text
text_at_end from to before text starts ends =
    ap (λ n. take (to - n) (drop n (before ++ text))) starts
    ∙ ap (take (to - length before)) (drop-append_seam before text)
    ∙ take_all (to - length before) text (omega (arith, ends))

-- the texts at offsets
abbrev at : List ℕ → ℕ × ℕ × ℕ → List ℕ × List ℕ
at texts p = (text_between p.0 p.1 texts, text_between p.1 p.2 texts)

-- offsets in order, none of them past the end
abbrev PlaceWithin : List ℕ → ℕ × ℕ × ℕ → Type 0
PlaceWithin texts p = (p.0 ≤ p.1) × (p.1 ≤ p.2) × (p.2 ≤ length texts) × IsUtf8 (at texts p).0 × IsUtf8 (at texts p).1

module _ {V : Type 0} where
  pub within_grown : (texts more : List ℕ) (ss : List (Slot V)) → All (IsWithin texts) ss → All (IsWithin (texts ++ more)) ss
  within_grown texts more [] within = All-nil (IsWithin (texts ++ more))
  within_grown texts more (s ∷ ss) within =
      let here : IsWithin texts s = All-head (IsWithin texts) s ss within in
      let first = text_grown s.first s.second texts more here.0 (omega (arith, here.1, here.2)) in
      let second = text_grown s.second s.end texts more here.1 here.2 in
      All-cons (IsWithin (texts ++ more)) s ss (here.0, here.1, omega (arith, here.2, length-append texts more), subst IsUtf8 (sym first) here.3, subst IsUtf8 (sym second) here.4) (within_grown texts more ss (All-tail (IsWithin texts) s ss within))

  pub entries_grown : (texts more : List ℕ) (ss : List (Slot V)) → All (IsWithin texts) ss → entries_in (texts ++ more) ss ≡ entries_in texts ss
  entries_grown texts more [] within = refl
  entries_grown texts more (s ∷ ss) within =
      let here : IsWithin texts s = All-head (IsWithin texts) s ss within in
      let first = text_grown s.first s.second texts more here.0 (omega (arith, here.1, here.2)) in
      let second = text_grown s.second s.end texts more here.1 here.2 in
      let rest = entries_grown texts more ss (All-tail (IsWithin texts) s ss within) in
      λ i. (first i, second i, s.value) ∷ rest i

  -- entries whose texts are put after a buffer
  entries_after : (before texts : List ℕ) (ss : List (Slot V)) → entries_in (before ++ texts) (map (slot_after (length before)) ss) ≡ entries_in texts ss
  entries_after before texts [] = refl
  entries_after before texts (s ∷ ss) =
      let first = text_moved s.first s.second before texts in
      let second = text_moved s.second s.end before texts in
      let rest = entries_after before texts ss in
      λ i. (first i, second i, s.value) ∷ rest i

  within_after : (before texts : List ℕ) (ss : List (Slot V)) → All (IsWithin texts) ss → All (IsWithin (before ++ texts)) (map (slot_after (length before)) ss)
  within_after before texts [] within = All-nil (IsWithin (before ++ texts))
  within_after before texts (s ∷ ss) within =
      let here : IsWithin texts s = All-head (IsWithin texts) s ss within in
      All-cons (IsWithin (before ++ texts)) (slot_after (length before) s) (map (slot_after (length before)) ss) (omega (arith, here.0), omega (arith, here.1), omega (arith, here.2, length-append before texts), subst IsUtf8 (sym (text_moved s.first s.second before texts)) here.3, subst IsUtf8 (sym (text_moved s.second s.end before texts)) here.4) (within_after before texts ss (All-tail (IsWithin texts) s ss within))

  pub entries_joined : (old texts : List ℕ) (ss more : List (Slot V)) → All (IsWithin old) ss → entries_in (old ++ texts) (ss ++ map (slot_after (length old)) more) ≡ entries_in old ss ++ entries_in texts more
  entries_joined old texts ss more within =
      map-append (entry_in (old ++ texts)) ss (map (slot_after (length old)) more)
      ∙ ap (λ l. l ++ entries_in (old ++ texts) (map (slot_after (length old)) more)) (entries_grown old texts ss within)
      ∙ ap (λ l. entries_in old ss ++ l) (entries_after old texts more)

  pub within_joined : (old texts : List ℕ) (ss more : List (Slot V)) → All (IsWithin old) ss → All (IsWithin texts) more → All (IsWithin (old ++ texts)) (ss ++ map (slot_after (length old)) more)
  within_joined old texts ss more within also =
      All-append (IsWithin (old ++ texts)) ss (map (slot_after (length old)) more) (within_grown old texts ss within) (within_after old texts more also)

  -- an entry more, whose texts are put after the others
  pub entry_added : (s : Slot V) (texts first second : List ℕ) → s.first ≡ length texts → s.second ≡ length texts + length first → s.end ≡ length texts + length first + length second
      → entry_in ((texts ++ first) ++ second) s ≡ (first, second, s.value)
  entry_added s texts first second begins turns ends =
      let long = length-append texts first in
      let one : text_between s.first s.second ((texts ++ first) ++ second) ≡ first = text_grown s.first s.second (texts ++ first) second (omega (arith, begins, turns)) (omega (arith, turns, long)) ∙ text_at_end s.first s.second texts first begins turns in
      let other : text_between s.second s.end ((texts ++ first) ++ second) ≡ second = text_at_end s.second s.end (texts ++ first) second (turns ∙ sym long) (omega (arith, ends, long)) in
      λ i. (one i, other i, s.value)

  pub entries_added : (ss : List (Slot V)) (s : Slot V) (texts first second : List ℕ) → All (IsWithin texts) ss → s.first ≡ length texts → s.second ≡ length texts + length first → s.end ≡ length texts + length first + length second
      → entries_in ((texts ++ first) ++ second) (ss ++ s ∷ []) ≡ entries_in texts ss ++ (first, second, s.value) ∷ []
  entries_added ss s texts first second within begins turns ends =
      map-append (entry_in ((texts ++ first) ++ second)) ss (s ∷ [])
      ∙ ap (λ l. l ++ entry_in ((texts ++ first) ++ second) s ∷ []) (entries_grown (texts ++ first) second ss (within_grown texts first ss within) ∙ entries_grown texts first ss within)
      ∙ ap (λ e. entries_in texts ss ++ e ∷ []) (entry_added s texts first second begins turns ends)

  pub within_added : (ss : List (Slot V)) (s : Slot V) (texts first second : List ℕ) → IsUtf8 first → IsUtf8 second → All (IsWithin texts) ss → s.first ≡ length texts → s.second ≡ length texts + length first → s.end ≡ length texts + length first + length second
      → All (IsWithin ((texts ++ first) ++ second)) (ss ++ s ∷ [])
  within_added ss s texts first second is also within begins turns ends =
      let entry = entry_added s texts first second begins turns ends in
      let all = IsWithin ((texts ++ first) ++ second) in
      All-append all ss (s ∷ []) (within_grown (texts ++ first) second ss (within_grown texts first ss within))
      (All-cons all s [] (omega (arith, begins, turns), omega (arith, turns, ends), omega (arith, ends, length-append texts first, length-append (texts ++ first) second), subst IsUtf8 (sym (ap (λ e. e.0) entry)) is, subst IsUtf8 (sym (ap (λ e. e.1) entry)) also) (All-nil all))

  -- ---- values that are changed

  texts_at_places : (texts : List ℕ) (ss : List (Slot V)) → map texts_of (entries_in texts ss) ≡ map (at texts) (map place_of ss)
  texts_at_places texts [] = refl
  texts_at_places texts (s ∷ ss) = ap (λ l. at texts (place_of s) ∷ l) (texts_at_places texts ss)

  pub texts_kept : (texts : List ℕ) (new old : List (Slot V)) → map place_of new ≡ map place_of old → map texts_of (entries_in texts new) ≡ map texts_of (entries_in texts old)
  texts_kept texts new old same = texts_at_places texts new ∙ ap (map (at texts)) same ∙ sym (texts_at_places texts old)

  pub entries_revalued : (texts : List ℕ) (h : V → V) (ss : List (Slot V)) → entries_in texts (map (slot_with_value h) ss) ≡ map (with_value h) (entries_in texts ss)
  entries_revalued texts h [] = refl
  entries_revalued texts h (s ∷ ss) = ap (λ l. with_value h (entry_in texts s) ∷ l) (entries_revalued texts h ss)

  places_within : (texts : List ℕ) (ss : List (Slot V)) → All (IsWithin texts) ss → All (PlaceWithin texts) (map place_of ss)
  places_within texts [] within = All-nil (PlaceWithin texts)
  places_within texts (s ∷ ss) within =
      All-cons (PlaceWithin texts) (place_of s) (map place_of ss) (All-head (IsWithin texts) s ss within) (places_within texts ss (All-tail (IsWithin texts) s ss within))

  slots_within : (texts : List ℕ) (ss : List (Slot V)) → All (PlaceWithin texts) (map place_of ss) → All (IsWithin texts) ss
  slots_within texts [] within = All-nil (IsWithin texts)
  slots_within texts (s ∷ ss) within =
      All-cons (IsWithin texts) s ss (All-head (PlaceWithin texts) (place_of s) (map place_of ss) within) (slots_within texts ss (All-tail (PlaceWithin texts) (place_of s) (map place_of ss) within))

  pub within_kept : (texts : List ℕ) (new old : List (Slot V)) → map place_of new ≡ map place_of old → All (IsWithin texts) old → All (IsWithin texts) new
  within_kept texts new old same within = slots_within texts new (subst (All (PlaceWithin texts)) (sym same) (places_within texts old within))
