-- What the search of `src/table.rt` keeps: which entries it has left, and how many probes it may have made.
use Rattle.std.proofs.Common.{◌≡◌, ℕ, zero, suc, ◌+◌, ◌*◌, ◌^◌, ◌<◌, ◌≤◌, Bool, true, false, List, [], ◌∷◌, length, get_or, Some, None, option_map, refl, sym, ap, ◌∙◌, ltb, arith}
use Rattle.std.proofs.Math.Nat.{mul-le-mul_right, pow-le-pow_right}
use Rattle.std.proofs.lemmas.Nat.{pow-add}
use Rattle.std.proofs.lemmas.List.{get_or_default, get_or-map}
use Rattle.std.proofs.lemmas.Bool.{ltb-true, ltb-false}
use Rattle.std.specs.Cmp.{IsTotalOrder}
use Rattle.std.specs.List.{last_or, AllByRecursion, filter}
use Rattle.std.specs.List.Sorted.{IsStrictlySortedBy}
use Rattle.std.specs.Ordering.{is_eq, eq_by_cmp, ordering_reverse}
use Rattle.std.specs.declared.cmp.Ordering.{Ordering}
use Rattle.std.specs.declared.cmp.Ordering.TheVariants.{Less, Equal, Greater}
use Rattle.ref_parts.specs.Table.{last_value}
use Rattle.ref_parts.specs.inner.SortedEntries.{entries_in, key_cmp, key_of, word_at, words_of, KeepsLast}
use Rattle.ref_parts.specs.declared.table.Slot.{Slot}
use Rattle.ref_parts.proofs.TableLaws.{filter_none, last_at, apart_by_key, key_total, key_cmp-IsAntisymmetric, last_value_by_key}

-- ---- counts

-- a number has at most as many binary digits as any power of two above it
below_digits : (p n d : ℕ) → 2 ^ p ≤ n → n < 2 ^ d → p < d
below_digits p n d at_least above =
    elim (ltb p d) as (λ b. ltb p d ≡ b → p < d) [
      | true ↦ λ yes. ltb-true p d yes
      | false ↦ λ no. let more : 2 ^ d ≤ 2 ^ p = pow-le-pow_right (omega arith) (ltb-false p d no) in absurd (omega (arith, more))
    ] refl

-- a probe leaves at most half of the entries
pub halved : (left next p counted n : ℕ) → left * 2 ^ p ≤ n → counted ≡ p + 1 → next + next ≤ left → next * 2 ^ counted ≤ n
halved left next p counted n known one half =
    let more : (next + next) * 2 ^ p ≤ left * 2 ^ p = mul-le-mul_right (2 ^ p) half in
    rw one (rw (pow-add 2 p 1) (omega (arith, more, known)))

-- what is left has an entry, so one probe more is at most one for each binary digit
pub within_digits : (left p counted n d : ℕ) → left * 2 ^ p ≤ n → 0 < left → counted ≡ p + 1 → n < 2 ^ d → counted ≤ d
within_digits left p counted n d known some one above =
    let more : 1 * 2 ^ p ≤ left * 2 ^ p = mul-le-mul_right (2 ^ p) some in
    omega (arith, one, below_digits p n d (omega (arith, more, known)) above)

-- ---- places

at_default : {X : Type 0} (P : X → Type 0) (xs : List X) → AllByRecursion P xs → (j : ℕ) (d : X) → j < length xs → P (get_or xs j d)
at_default P [] all j d within = absurd (omega arith)
at_default P (y ∷ ys) all zero d within = all.0
at_default P (y ∷ ys) all (suc j) d within = at_default P ys all.1 j d (omega arith)

-- an entry is below each later one
strictly_at : {X : Type 0} (R : X → X → Ordering) (xs : List X) → IsStrictlySortedBy R xs → (i j : ℕ) (d : X) → i < j → j < length xs → R (get_or xs i d) (get_or xs j d) ≡ Less
unfolding IsStrictlySortedBy
strictly_at R [] sorted i j d less within = absurd (omega arith)
strictly_at R (x ∷ xs) sorted i zero d less within = absurd (omega arith)
strictly_at R (x ∷ xs) sorted zero (suc j) d less within = at_default (λ y. R x y ≡ Less) xs sorted.0 j d (omega arith)
strictly_at R (x ∷ xs) sorted (suc i) (suc j) d less within = strictly_at R xs sorted.1 i j d (omega arith) (omega arith)

module _ {X K : Type 0} {R : K → K → Ordering} (o : IsTotalOrder R) (key : X → K) (q : K) (xs : List X) (sorted : IsStrictlySortedBy (λ x y. R (key x) (key y)) xs) where
  -- those up to one that is less are less
  pub below_middle : (m : ℕ) (x : X) → m < length xs → x ≡ get_or xs m x → R (key x) q ≡ Less → (k : ℕ) (d : X) → k < m + 1 → R (key (get_or xs k d)) q ≡ Less
  below_middle m x within is less k d before =
      let here : get_or xs m d ≡ x = get_or_default xs m d x within ∙ sym is in
      elim (ltb k m) as (λ b. ltb k m ≡ b → R (key (get_or xs k d)) q ≡ Less) [
        | true ↦ λ yes. o.trans _ (key x) q (ap (λ y. R (key (get_or xs k d)) (key y)) (sym here) ∙ strictly_at _ xs sorted k m d (ltb-true k m yes) within) less
        | false ↦ λ no. let same : k ≡ m = omega (arith, ltb-false k m no) in ap (λ j. R (key (get_or xs j d)) q) same ∙ ap (λ y. R (key y) q) here ∙ less
      ] refl

  -- those from one that is greater on are greater
  pub above_middle : (m : ℕ) (x : X) → m < length xs → x ≡ get_or xs m x → R (key x) q ≡ Greater → (k : ℕ) (d : X) → m ≤ k → k < length xs → R (key (get_or xs k d)) q ≡ Greater
  above_middle m x within is greater k d behind inside =
      let here : get_or xs m d ≡ x = get_or_default xs m d x within ∙ sym is in
      let turned : R q (key x) ≡ Less = o.antisymm q (key x) ∙ ap ordering_reverse greater in
      elim (ltb m k) as (λ b. ltb m k ≡ b → R (key (get_or xs k d)) q ≡ Greater) [
        | true ↦ λ yes. o.antisymm _ q ∙ ap ordering_reverse (o.trans q (key x) _ turned (ap (λ y. R (key y) (key (get_or xs k d))) (sym here) ∙ strictly_at _ xs sorted m k d (ltb-true m k yes) inside))
        | false ↦ λ no. let same : k ≡ m = omega (arith, ltb-false m k no) in ap (λ j. R (key (get_or xs j d)) q) same ∙ ap (λ y. R (key y) q) here ∙ greater
      ] refl

-- the number at a place is that of the entry there
pub number_at : {V : Type 0} (kept : List (Slot V)) (words : List ℕ) → words ≡ words_of kept → (i word : ℕ) (s : Slot V) → i < length kept → word ≡ get_or words i word → s ≡ get_or kept i s → word ≡ s.word
number_at kept words are i word s within found is =
    found ∙ ap (λ ws. get_or ws i word) are ∙ get_or-map (λ s. s.word) kept i s word within ∙ ap (λ s. s.word) (sym is)

each_by_place : {X : Type 0} (P : X → Type 0) (xs : List X) → ((k : ℕ) (d : X) → k < length xs → P (get_or xs k d)) → AllByRecursion P xs
each_by_place P [] each = tt
each_by_place P (x ∷ xs) each = (each 0 x (omega arith), each_by_place P xs (λ k d less. each (suc k) d (omega arith)))

module _ {V : Type 0} (texts : List ℕ) (shared : ℕ) (entered kept : List (Slot V)) (keeps : KeepsLast texts shared kept entered) (first second : List ℕ) (word : ℕ) (is_word : word ≡ word_at shared first) where
  abbrev is_here : Slot V → Bool
  is_here s = eq_by_cmp key_cmp (key_of texts s) (word, (first, second))

  by_key : last_value first second (entries_in texts entered) ≡ option_map (λ s. s.value) (last_or None (filter is_here kept))
  by_key =
      sym (keeps.values first second) ∙ last_value_by_key texts shared first second kept keeps.words
      ∙ ap (λ w. option_map (λ s. s.value) (last_or None (filter (λ s. eq_by_cmp key_cmp (key_of texts s) (w, (first, second))) kept))) (sym is_word)

  -- an entry under the texts has their last value
  pub found_at : (i : ℕ) (s : Slot V) → i < length kept → s ≡ get_or kept i s → key_cmp (key_of texts s) (word, (first, second)) ≡ Equal → last_value first second (entries_in texts entered) ≡ Some s.value
  found_at i s within is equal =
      by_key ∙ ap (option_map (λ t. t.value)) (last_at is_here (apart_by_key key_total key_cmp-IsAntisymmetric (key_of texts) (word, (first, second))) kept keeps.sorted i s within is (ap is_eq equal))

  -- where each entry is less or greater, there is no value
  pub found_nowhere : (low high : ℕ) → high ≤ low → ((k : ℕ) (d : Slot V) → k < low → key_cmp (key_of texts (get_or kept k d)) (word, (first, second)) ≡ Less)
      → ((k : ℕ) (d : Slot V) → high ≤ k → k < length kept → key_cmp (key_of texts (get_or kept k d)) (word, (first, second)) ≡ Greater) → last_value first second (entries_in texts entered) ≡ None
  found_nowhere low high done below above =
      by_key ∙ ap (λ l. option_map (λ t. t.value) (last_or None l)) (filter_none is_here kept (each_by_place (λ t. is_here t ≡ false) kept (λ k d inside.
      elim (ltb k low) as (λ b. ltb k low ≡ b → is_here (get_or kept k d) ≡ false) [
        | true ↦ λ yes. ap is_eq (below k d (ltb-true k low yes))
        | false ↦ λ no. ap is_eq (above k d (omega (arith, ltb-false k low no)) inside)
      ] refl)))

-- a number that isn't 0
pub positive : (n : ℕ) → (n ≡ 0 → ⊥) → 0 < n
positive zero never = absurd (never refl)
positive (suc n) never = omega arith
