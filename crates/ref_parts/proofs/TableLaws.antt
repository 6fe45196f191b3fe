-- What `src/table.rt` rests on: what sorting and dropping repeats keep of the last entry that a test finds.
--
-- 1. What is kept of a list when repeats are dropped, and that the last entry that a test finds is kept.
-- 2. Slices: what is written to all elements, one at a time.
-- 3. Texts and pairs of texts are totally ordered, and are equal exactly where the order says so (`pair_total`).
-- 4. Keys, which are the first bytes of a text as a number, are ordered likewise, and tell only unequal texts apart (`key_total`).
use Rattle.std.proofs.Common.{◌≡◌, ℕ, zero, suc, ◌+◌, ◌<◌, Bool, true, false, not, ◌&&◌, ◌||◌, cond, eqb, map, bytes_eq, option_map, List, [], ◌∷◌, ◌++◌, length, get_or, take, drop, reverse, Option, Some, None, is_some, ◌⊎◌, inl, inr, ⊎_elim, refl, sym, ap, ◌∙◌, subst, append-nil, arith}
use Rattle.std.proofs.lemmas.Bool.{false≢true, cond-false}
use Rattle.std.proofs.lemmas.Cmp.{nat_list_cmp_total, then_total, on_total, back_total, eq_by_cmp_equiv}
use Rattle.std.proofs.lemmas.List.Kept.{IsStrictlySortedBy-dedup}
use Rattle.std.proofs.lemmas.List.Sorted.{ranks_by}
use Rattle.std.specs.Cmp.{IsTotalOrder, IsStrictWeakOrder, Equal-is, both_tied}
use Rattle.std.specs.Cmp.Lexicographic.{slice_cmp, texts_ties}
use Rattle.std.specs.FinSet as set
use Rattle.std.specs.FinSet.{IsAntisymmetric, nat_cmp-IsAntisymmetric, slice_cmp-IsAntisymmetric, contains-from_list, len-insert, len-empty, same_set}
use Rattle.std.specs.Ordering.{is_lt, is_eq, eq_by_cmp, ordering_reverse, ordering_then, nat_cmp}
use Rattle.ref_parts.specs.Table.{Entry, is_under, last_value, pair_count}
use Rattle.ref_parts.specs.inner.SortedEntries.{pair_cmp, pair_of, entry_in, entries_in, Key, key_cmp, key_of, word_at, slot_with_word, same_slots, HasWord, IsWithin, KeepsLast}
use Rattle.ref_parts.specs.declared.table.Slot.{Slot}
use Rattle.std.specs.List.{All}
use Rattle.std.specs.List.Sorted.{IsPermutation}
use Rattle.std.specs.Cmp.{nat_cmp_total, unsigned_ties}
use Rattle.std.proofs.lemmas.Cmp.{tied_itself}
use Rattle.std.proofs.lemmas.List.{map-append}
use Rattle.std.proofs.lemmas.List.Sorted.{All-permutation}
use Rattle.std.proofs.lemmas.List.Elements.{All-head, All-tail, All-nil, All-cons, All-append, All-weaker}
use Rattle.std.proofs.lemmas.List.Filters.{All-dedup}
use Rattle.std.specs.declared.cmp.Ordering.{Ordering}
use Rattle.std.specs.declared.cmp.Ordering.TheVariants.{Less, Equal, Greater}
use Rattle.std.specs.List.{filter, last_or, list_any, dedup, dedup_from, AllByRecursion}
use Rattle.std.specs.List.Sorted.{IsStrictlySortedBy, IsSortedBy, IsStableBy, ties}
use Rattle.std.proofs.lemmas.List.Elements.{filter-append}
use Rattle.std.proofs.lemmas.List.{reverse-reverse, reverse-append, take-append-le, take_all}

-- the first of a list
abbrev pub first_of : {X : Type 0} → List X → Option X
first_of [] = None
first_of (x ∷ xs) = Some x

module _ {X : Type 0} where
  last_or-push : (o : Option X) (xs : List X) (x : X) → last_or o (xs ++ x ∷ []) ≡ Some x
  last_or-push o [] x = refl
  last_or-push o (y ∷ xs) x = last_or-push (Some y) xs x

  last_or-reverse : (xs : List X) → last_or None (reverse xs) ≡ first_of xs
  last_or-reverse [] = refl
  last_or-reverse (x ∷ xs) = ap (last_or None) (reverse-append (x ∷ []) xs) ∙ last_or-push None (reverse xs) x

  pub first_of-reverse : (xs : List X) → first_of (reverse xs) ≡ last_or None xs
  first_of-reverse xs = sym (last_or-reverse (reverse xs)) ∙ ap (last_or None) (reverse-reverse xs)

module _ {X : Type 0} (u : X → Bool) where
  filter_one : (b : Bool) (x : X) (xs : List X) → reverse xs ++ cond b (x ∷ []) [] ≡ reverse (cond b (x ∷ xs) xs)
  filter_one true x xs = sym (reverse-append (x ∷ []) xs)
  filter_one false x xs = append-nil (reverse xs)

  pub filter-reverse : (xs : List X) → filter u (reverse xs) ≡ reverse (filter u xs)
  filter-reverse [] = refl
  filter-reverse (x ∷ xs) =
      ap (filter u) (reverse-append (x ∷ []) xs) ∙ filter-append u (reverse xs) (x ∷ []) ∙ ap (λ l. l ++ cond (u x) (x ∷ []) []) (filter-reverse xs) ∙ filter_one (u x) x (filter u xs)

  -- a filter keeps nothing, or something passes
  filter_cases : (xs : List X) → (filter u xs ≡ []) ⊎ ((x : X) × (u x ≡ true))
  filter_cases [] = inl refl
  filter_cases (x ∷ xs) =
      elim (u x) as (λ b. u x ≡ b → (cond b (x ∷ filter u xs) (filter u xs) ≡ []) ⊎ ((y : X) × (u y ≡ true))) [
        | true ↦ λ passes. inr (x, passes)
        | false ↦ λ _. filter_cases xs
      ] refl

  -- a stable sort keeps the order of what passes, where what passes ties with nothing else
  pub filter_stable : (lt : X → X → Bool) (ys zs : List X) → ((x y : X) → u x ≡ true → ties lt x y ≡ u y) → IsStableBy lt ys zs → filter u zs ≡ filter u ys
  filter_stable lt ys zs alike stable =
      let by : (x : X) → u x ≡ true → filter u zs ≡ filter u ys = λ x passes.
      let same : ties lt x ≡ u = λ i y. alike x y passes i in
      sym (ap (λ t. filter t zs) same) ∙ stable x ∙ ap (λ t. filter t ys) same in
      ⊎_elim (λ none. ⊎_elim (λ none'. none' ∙ sym none) (λ one. by one.0 one.1) (filter_cases zs)) (λ one. by one.0 one.1) (filter_cases ys)

  first_of_both : (b c : Bool) (k x : X) (xs : List X) → c ≡ b → first_of (cond b (k ∷ xs) xs) ≡ first_of (cond b (k ∷ cond c (x ∷ xs) xs) (cond c (x ∷ xs) xs))
  first_of_both true c k x xs same = refl
  first_of_both false true k x xs same = absurd (false≢true (sym same))
  first_of_both false false k x xs same = refl

  first_of_later : (b : Bool) (k : X) (xs ys : List X) → first_of xs ≡ first_of ys → first_of (cond b (k ∷ xs) xs) ≡ first_of (cond b (k ∷ ys) ys)
  first_of_later true k xs ys same = refl
  first_of_later false k xs ys same = same

  -- dropping repeats keeps the first that passes, where repeats pass alike
  first_of-dedup_from : (same : X → X → Bool) → ((x k : X) → same x k ≡ true → u x ≡ u k) → (k : X) (xs : List X) → first_of (filter u (dedup_from same k xs)) ≡ first_of (filter u (k ∷ xs))
  first_of-dedup_from same alike k [] = refl
  first_of-dedup_from same alike k (x ∷ xs) =
      elim (same x k) as (λ b. same x k ≡ b → first_of (filter u (cond b (dedup_from same k xs) (k ∷ dedup_from same x xs))) ≡ first_of (filter u (k ∷ x ∷ xs))) [
        | true ↦ λ repeats. first_of-dedup_from same alike k xs ∙ first_of_both (u k) (u x) k x (filter u xs) (alike x k repeats)
        | false ↦ λ _. first_of_later (u k) k _ _ (first_of-dedup_from same alike x xs)
      ] refl

  pub first_of-dedup : (same : X → X → Bool) → ((x k : X) → same x k ≡ true → u x ≡ u k) → (xs : List X) → first_of (filter u (dedup same xs)) ≡ first_of (filter u xs)
  first_of-dedup same alike [] = refl
  first_of-dedup same alike (x ∷ xs) = first_of-dedup_from same alike x xs

module _ {X : Type 0} (u : X → Bool) where
  pub filter_none : (xs : List X) → AllByRecursion (λ x. u x ≡ false) xs → filter u xs ≡ []
  filter_none [] none = refl
  filter_none (x ∷ xs) none = cond-false _ _ _ none.0 ∙ filter_none xs none.1

  each_weaker : {P Q : X → Type 0} → ((x : X) → P x → Q x) → (xs : List X) → AllByRecursion P xs → AllByRecursion Q xs
  each_weaker weaker [] all = tt
  each_weaker weaker (x ∷ xs) all = (weaker x all.0, each_weaker weaker xs all.1)

pub each_at : {X : Type 0} (P : X → Type 0) (xs : List X) → AllByRecursion P xs → (i : ℕ) (x : X) → i < length xs → x ≡ get_or xs i x → P x
each_at P [] all i x within is = absurd (omega arith)
each_at P (y ∷ xs) all zero x within is = subst P (sym is) all.0
each_at P (y ∷ xs) all (suc i) x within is = each_at P xs all.1 i x (omega arith) is

module _ {X : Type 0} {R : X → X → Ordering} (u : X → Bool) (apart : (x y : X) → u x ≡ true → R x y ≡ Less → u y ≡ false) where
  -- after one that passes nothing passes
  none_behind : (x : X) (xs : List X) → u x ≡ true → AllByRecursion (λ y. R x y ≡ Less) xs → filter u xs ≡ []
  none_behind x xs passes above = filter_none u xs (each_weaker u (λ y. apart x y passes) xs above)

  -- at most one passes
  pub last_is_first : (xs : List X) → IsStrictlySortedBy R xs → last_or None (filter u xs) ≡ first_of (filter u xs)
  unfolding IsStrictlySortedBy
  last_is_first [] sorted = refl
  last_is_first (x ∷ xs) sorted =
      elim (u x) as (λ b. u x ≡ b → last_or None (cond b (x ∷ filter u xs) (filter u xs)) ≡ first_of (cond b (x ∷ filter u xs) (filter u xs))) [
        | true ↦ λ passes. ap (last_or (Some x)) (none_behind x xs passes sorted.0)
        | false ↦ λ _. last_is_first xs sorted.1
      ] refl

  -- one that passes is the last that does
  pub last_at : (xs : List X) → IsStrictlySortedBy R xs → (i : ℕ) (x : X) → i < length xs → x ≡ get_or xs i x → u x ≡ true → last_or None (filter u xs) ≡ Some x
  unfolding IsStrictlySortedBy
  last_at [] sorted i x within is passes = absurd (omega arith)
  last_at (y ∷ xs) sorted zero x within is passes =
      ap (λ b. last_or None (cond b (y ∷ filter u xs) (filter u xs))) (ap u (sym is) ∙ passes) ∙ ap (last_or (Some y)) (none_behind y xs (ap u (sym is) ∙ passes) sorted.0) ∙ ap (λ z. Some z) (sym is)
  last_at (y ∷ xs) sorted (suc i) x within is passes =
      let less : R y x ≡ Less = each_at (λ z. R y z ≡ Less) xs sorted.0 i x (omega arith) is in
      elim (u y) as (λ b. u y ≡ b → last_or None (cond b (y ∷ filter u xs) (filter u xs)) ≡ Some x) [
        | true ↦ λ before. absurd (false≢true (sym (apart y x before less) ∙ passes))
        | false ↦ λ _. last_at xs sorted.1 i x (omega arith) is passes
      ] refl

tied_both_ways : (r : Ordering) → (not (is_lt (ordering_reverse r)) && not (is_lt r)) ≡ is_eq r
tied_both_ways Less = refl
tied_both_ways Equal = refl
tied_both_ways Greater = refl

module _ {X K : Type 0} {R : K → K → Ordering} (o : IsTotalOrder R) (anti : IsAntisymmetric R) (key : X → K) (q : K) where
  abbrev has_key : X → Bool
  has_key x = eq_by_cmp R (key x) q

  key_is : (x : X) → has_key x ≡ true → key x ≡ q
  key_is x tied = anti _ _ ((Equal-is (R (key x) q)).0 tied)

  ties_alike : (x y : X) → has_key x ≡ true → ties (λ a b. is_lt (R (key a) (key b))) x y ≡ has_key y
  ties_alike x y tied =
      ap (λ k. not (is_lt (R k (key y))) && not (is_lt (R (key y) k))) (key_is x tied)
      ∙ ap (λ r. not (is_lt r) && not (is_lt (R (key y) q))) (o.antisymm q (key y)) ∙ tied_both_ways (R (key y) q)

  pub apart_by_key : (x y : X) → has_key x ≡ true → R (key x) (key y) ≡ Less → has_key y ≡ false
  apart_by_key x y tied less =
      ap is_eq (o.antisymm (key y) q ∙ ap ordering_reverse (ap (λ k. R k (key y)) (sym (key_is x tied)) ∙ less))

  -- of the last in the order of entry one is kept
  pub last_kept : (same : X → X → Bool) → ((x y : X) → same x y ≡ eq_by_cmp R (key x) (key y)) → (entered back sorted kept : List X) → back ≡ reverse entered → IsSortedBy (λ a b. is_lt (R (key a) (key b))) sorted → IsStableBy (λ a b. is_lt (R (key a) (key b))) back sorted → kept ≡ dedup same sorted
      → IsStrictlySortedBy (λ a b. R (key a) (key b)) kept → last_or None (filter has_key kept) ≡ last_or None (filter has_key entered)
  last_kept same is entered back sorted kept turned ascends stable once strictly =
      last_is_first has_key apart_by_key kept strictly
      ∙ ap (λ l. first_of (filter has_key l)) once
      ∙ first_of-dedup has_key same (λ x k repeats. ap (λ j. eq_by_cmp R j q) (anti _ _ ((Equal-is (R (key x) (key k))).0 (sym (is x k) ∙ repeats)))) sorted
      ∙ ap first_of (filter_stable has_key (λ a b. is_lt (R (key a) (key b))) back sorted ties_alike stable ∙ ap (filter has_key) turned ∙ filter-reverse has_key entered)
      ∙ first_of-reverse (filter has_key entered)

-- what a slice of all elements was written to
pub refilled : {X : Type 0} (n : ℕ) (old new : List X) → length new ≡ n → take n (new ++ drop (length new) old) ≡ new
refilled n old new same = take-append-le n new (drop (length new) old) (omega arith) ∙ take_all n new (omega arith)

-- ---- pairs of texts

pub pair_total : IsTotalOrder pair_cmp
pair_total = then_total (on_total (λ p. p.0) nat_list_cmp_total) (on_total (λ p. p.1) nat_list_cmp_total)

then_parts : (a b : Ordering) → ordering_then a b ≡ Equal → (a ≡ Equal) × (b ≡ Equal)
then_parts Less b e = absurd (cc)
then_parts Equal b e = (refl, e)
then_parts Greater b e = absurd (cc)

pub pair_cmp-IsAntisymmetric : IsAntisymmetric pair_cmp
pair_cmp-IsAntisymmetric p q e =
    let parts = then_parts (slice_cmp nat_cmp p.0 q.0) (slice_cmp nat_cmp p.1 q.1) e in
    let texts = slice_cmp-IsAntisymmetric nat_cmp-IsAntisymmetric in
    λ i. (texts p.0 q.0 parts.0 i, texts p.1 q.1 parts.1 i)

-- texts are equal exactly where pairs tie
equal_pairs : (a b c d : List ℕ) → (bytes_eq a c && bytes_eq b d) ≡ eq_by_cmp pair_cmp (a, b) (c, d)
equal_pairs a b c d = both_tied (bytes_eq a c) (bytes_eq b d) (slice_cmp nat_cmp a c) (slice_cmp nat_cmp b d) (texts_ties a c) (texts_ties b d)

is_some-map : {A B : Type 0} (f : A → B) (o : Option A) → is_some (option_map f o) ≡ is_some o
is_some-map f None = refl
is_some-map f (Some x) = refl

is_some-last : {X : Type 0} (u : X → Bool) (o : Option X) (xs : List X) → is_some (last_or o (filter u xs)) ≡ (is_some o || list_any u xs)
is_some-last u None [] = refl
is_some-last u (Some x) [] = refl
is_some-last u None (x ∷ xs) =
    elim (u x) as (λ b. is_some (last_or None (cond b (x ∷ filter u xs) (filter u xs))) ≡ (b || list_any u xs)) [
      | true ↦ is_some-last u (Some x) xs
      | false ↦ is_some-last u None xs
    ]
is_some-last u (Some y) (x ∷ xs) =
    elim (u x) as (λ b. is_some (last_or (Some y) (cond b (x ∷ filter u xs) (filter u xs))) ≡ true) [
      | true ↦ is_some-last u (Some x) xs
      | false ↦ is_some-last u (Some y) xs
    ]

last_or-map : {X Y : Type 0} (f : X → Y) (u : Y → Bool) (o : Option X) (ts : List X) → last_or (option_map f o) (filter u (map f ts)) ≡ option_map f (last_or o (filter (λ t. u (f t)) ts))
last_or-map f u o [] = refl
last_or-map f u o (t ∷ ts) =
    elim (u (f t)) as (λ b. last_or (option_map f o) (cond b (f t ∷ filter u (map f ts)) (filter u (map f ts))) ≡ option_map f (last_or o (cond b (t ∷ filter (λ t. u (f t)) ts) (filter (λ t. u (f t)) ts)))) [
      | true ↦ last_or-map f u (Some t) ts
      | false ↦ last_or-map f u o ts
    ]

-- ---- keys

pub key_total : IsTotalOrder key_cmp
key_total = back_total (then_total (on_total (λ k. k.0) nat_cmp_total) (on_total (λ k. k.1) pair_total))

pub key_cmp-IsAntisymmetric : IsAntisymmetric key_cmp
key_cmp-IsAntisymmetric p q e =
    let parts = then_parts (nat_cmp q.0 p.0) (pair_cmp q.1 p.1) e in
    sym (λ i. (nat_cmp-IsAntisymmetric q.0 p.0 parts.0 i, pair_cmp-IsAntisymmetric q.1 p.1 parts.1 i))

then_less : (o : Ordering) → is_eq (ordering_then o Less) ≡ false
then_less Less = refl
then_less Equal = refl
then_less Greater = refl

then_greater : (o : Ordering) → is_eq (ordering_then o Greater) ≡ false
then_greater Less = refl
then_greater Equal = refl
then_greater Greater = refl

-- a number that is read from the first text doesn't tell equal pairs apart
equal_keys : (shared w : ℕ) (p q : List ℕ × List ℕ) → w ≡ word_at shared p.0 → eq_by_cmp pair_cmp p q ≡ eq_by_cmp key_cmp (w, p) (word_at shared q.0, q)
equal_keys shared w p q is =
    let number : Ordering = nat_cmp (word_at shared q.0) w in
    (eq_by_cmp_equiv pair_total).symm p q ∙ elim (pair_cmp q p) as (λ o. pair_cmp q p ≡ o → is_eq o ≡ is_eq (ordering_then number o)) [
      | Less ↦ λ _. sym (then_less number)
      | Equal ↦ λ e.
          let same : number ≡ Equal = ap (nat_cmp (word_at shared q.0)) (is ∙ ap (λ r. word_at shared r.0) (sym (pair_cmp-IsAntisymmetric q p e))) ∙ tied_itself nat_cmp_total (word_at shared q.0) in
          sym (ap (λ n. is_eq (ordering_then n Equal)) same)
      | Greater ↦ λ _. sym (then_greater number)
    ] refl

filter_alike : {X : Type 0} (u v : X → Bool) (xs : List X) → All (λ x. u x ≡ v x) xs → filter u xs ≡ filter v xs
filter_alike u v [] alike = refl
filter_alike u v (x ∷ xs) alike =
    let here : u x ≡ v x = All-head (λ x. u x ≡ v x) x xs alike in
    let rest = filter_alike u v xs (All-tail (λ x. u x ≡ v x) x xs alike) in
    λ i. cond (here i) (x ∷ rest i) (rest i)

reverse_map : {X Y : Type 0} (f : X → Y) (xs : List X) → map f (reverse xs) ≡ reverse (map f xs)
reverse_map f [] = refl
reverse_map f (x ∷ xs) =
    ap (map f) (reverse-append (x ∷ []) xs) ∙ map-append f (reverse xs) (x ∷ []) ∙ ap (λ l. l ++ f x ∷ []) (reverse_map f xs)
    ∙ sym (reverse-append (f x ∷ []) (map f xs))

module _ {V : Type 0} (texts : List ℕ) where
  value_in : (o : Option (Slot V)) → option_map (λ e. e.2) (option_map {T = Slot V} {U = Entry V} (entry_in texts) o) ≡ option_map (λ s. s.value) o
  value_in None = refl
  value_in (Some s) = refl

  -- the last value, by the order of pairs
  last_value_by_order : (first second : List ℕ) (ss : List (Slot V)) → last_value first second (entries_in texts ss) ≡ option_map (λ s. s.value) (last_or None (filter (λ s. eq_by_cmp pair_cmp (pair_of texts s) (first, second)) ss))
  last_value_by_order first second ss =
      ap (option_map (λ e. e.2)) (last_or-map (entry_in texts) (is_under first second) None ss) ∙ value_in _
      ∙ ap (λ (u : Slot V → Bool). option_map (λ s. s.value) (last_or None (filter u ss))) (λ i s. equal_pairs (pair_of texts s).0 (pair_of texts s).1 first second i)

  -- the last value, by the order of keys
  pub last_value_by_key : (shared : ℕ) (first second : List ℕ) (ss : List (Slot V)) → All (HasWord texts shared) ss
      → last_value first second (entries_in texts ss) ≡ option_map (λ s. s.value) (last_or None (filter (λ s. eq_by_cmp key_cmp (key_of texts s) (word_at shared first, (first, second))) ss))
  last_value_by_key shared first second ss words =
      let by_pair : Slot V → Bool = λ s. eq_by_cmp pair_cmp (pair_of texts s) (first, second) in
      let by_key : Slot V → Bool = λ s. eq_by_cmp key_cmp (key_of texts s) (word_at shared first, (first, second)) in
      last_value_by_order first second ss
      ∙ ap (λ l. option_map (λ s. s.value) (last_or None l)) (filter_alike by_pair by_key ss (All-weaker (HasWord texts shared) (λ s. by_pair s ≡ by_key s) (λ s is. equal_keys shared s.word (pair_of texts s) (first, second) is) ss words))

  numbered_have_words : (shared : ℕ) (ss : List (Slot V)) → All (HasWord texts shared) (map (slot_with_word texts shared) ss)
  numbered_have_words shared [] = All-nil (HasWord texts shared)
  numbered_have_words shared (s ∷ ss) = All-cons (HasWord texts shared) (slot_with_word texts shared s) (map (slot_with_word texts shared) ss) refl (numbered_have_words shared ss)

  numbered_within : (shared : ℕ) (ss : List (Slot V)) → All (IsWithin texts) ss → All (IsWithin texts) (map (slot_with_word texts shared) ss)
  numbered_within shared [] within = All-nil (IsWithin texts)
  numbered_within shared (s ∷ ss) within =
      All-cons (IsWithin texts) (slot_with_word texts shared s) (map (slot_with_word texts shared) ss) (All-head (IsWithin texts) s ss within) (numbered_within shared ss (All-tail (IsWithin texts) s ss within))

  reversed_within : (ss : List (Slot V)) → All (IsWithin texts) ss → All (IsWithin texts) (reverse ss)
  reversed_within [] within = All-nil (IsWithin texts)
  reversed_within (s ∷ ss) within =
      subst (All (IsWithin texts)) (sym (reverse-append (s ∷ []) ss)) (All-append (IsWithin texts) (reverse ss) (s ∷ []) (reversed_within ss (All-tail (IsWithin texts) s ss within)) (All-cons (IsWithin texts) s [] (All-head (IsWithin texts) s ss within) (All-nil (IsWithin texts))))

  -- a number changes no entry
  entries_of_numbered : (shared : ℕ) (ss : List (Slot V)) → entries_in texts (map (slot_with_word texts shared) ss) ≡ entries_in texts ss
  entries_of_numbered shared [] = refl
  entries_of_numbered shared (s ∷ ss) = ap (λ l. entry_in texts s ∷ l) (entries_of_numbered shared ss)

  -- ---- counts

  abbrev texts_of : Entry V → List ℕ × List ℕ
  texts_of e = (e.0, e.1)

  any_alike : (first second : List ℕ) (es : List (Entry V)) → list_any (is_under first second) es ≡ list_any (eq_by_cmp pair_cmp (first, second)) (map texts_of es)
  any_alike first second [] = refl
  any_alike first second (e ∷ es) =
      let here = equal_pairs e.0 e.1 first second ∙ (eq_by_cmp_equiv pair_total).symm (e.0, e.1) (first, second) in
      λ i. here i || any_alike first second es i

  found_is : (es : List (Entry V)) (first second : List ℕ) → is_some (last_value first second es) ≡ set.contains (set.from_list {R = pair_cmp} (map texts_of es)) (first, second)
  found_is es first second =
      is_some-map (λ e. e.2) _ ∙ is_some-last (is_under first second) None es ∙ any_alike first second es ∙ sym (contains-from_list pair_total (map texts_of es) (first, second))

  count_is : (es : List (Entry V)) → pair_count es ≡ set.len (set.from_list {R = pair_cmp} (map texts_of es))
  count_is [] = sym (len-empty pair_cmp)
  count_is (e ∷ es) =
      ap (λ b. cond b (pair_count es) (pair_count es + 1)) (found_is es e.0 e.1)
      ∙ ap (λ n. cond (set.contains (set.from_list {R = pair_cmp} (map texts_of es)) (texts_of e)) n (n + 1)) (count_is es)
      ∙ sym (len-insert pair_total (set.from_list (map texts_of es)) (texts_of e))

  count_same : (es ds : List (Entry V)) → ((first second : List ℕ) → last_value first second es ≡ last_value first second ds) → pair_count es ≡ pair_count ds
  count_same es ds same =
      count_is es ∙ ap set.len (same_set pair_total pair_cmp-IsAntisymmetric _ _ (λ q. sym (found_is es q.0 q.1) ∙ ap is_some (same q.0 q.1) ∙ found_is ds q.0 q.1)) ∙ sym (count_is ds)

  -- each pair counts once
  count_sorted : (shared : ℕ) (ss : List (Slot V)) → IsStrictlySortedBy (λ x y. key_cmp (key_of texts x) (key_of texts y)) ss → All (HasWord texts shared) ss → pair_count (entries_in texts ss) ≡ length ss
  unfolding IsStrictlySortedBy
  count_sorted shared [] sorted words = refl
  count_sorted shared (s ∷ ss) sorted words =
      let rest = All-tail (HasWord texts shared) s ss words in
      let first = (pair_of texts s).0 in
      let second = (pair_of texts s).1 in
      let q : Key = (word_at shared first, pair_of texts s) in
      let itself : eq_by_cmp key_cmp (key_of texts s) q ≡ true = ap (λ (w : ℕ). eq_by_cmp key_cmp (w, pair_of texts s) q) (All-head (HasWord texts shared) s ss words) ∙ (eq_by_cmp_equiv key_total).refl q in
      let later : last_value first second (entries_in texts ss) ≡ None =
      last_value_by_key shared first second ss rest
      ∙ ap (λ l. option_map (λ t. t.value) (last_or None l)) (none_behind {R = λ x y. key_cmp (key_of texts x) (key_of texts y)} (λ x. eq_by_cmp key_cmp (key_of texts x) q) (apart_by_key key_total key_cmp-IsAntisymmetric (key_of texts) q) s ss itself sorted.0) in
      let n = pair_count (entries_in texts ss) in
      ap (λ b. cond b n (n + 1)) (ap is_some later) ∙ ap (λ n. n + 1) (count_sorted shared ss sorted.1 rest) ∙ omega arith

  abbrev pub slot_lt : Slot V → Slot V → Bool
  slot_lt x y = is_lt (key_cmp (key_of texts x) (key_of texts y))

  pub slot_lt_ranks : IsStrictWeakOrder slot_lt
  slot_lt_ranks = ranks_by key_total (key_of texts)

  same_is : (x y : Slot V) → same_slots texts x y ≡ eq_by_cmp key_cmp (key_of texts x) (key_of texts y)
  same_is x y =
      both_tied (eqb x.word y.word) _ (nat_cmp y.word x.word) (pair_cmp (pair_of texts y) (pair_of texts x)) (unsigned_ties x.word y.word ∙ (eq_by_cmp_equiv nat_cmp_total).symm x.word y.word)
      (equal_pairs (pair_of texts x).0 (pair_of texts x).1 (pair_of texts y).0 (pair_of texts y).1 ∙ (eq_by_cmp_equiv pair_total).symm (pair_of texts x) (pair_of texts y))

  pub keeps_last : (shared : ℕ) (entered back sorted kept : List (Slot V)) → All (IsWithin texts) entered → back ≡ map (slot_with_word texts shared) (reverse entered) → IsPermutation back sorted → IsSortedBy slot_lt sorted → IsStableBy slot_lt back sorted → kept ≡ dedup (same_slots texts) sorted → KeepsLast texts shared kept entered
  keeps_last shared entered back sorted kept within turned moved ascends stable once =
      let slots = map (slot_with_word texts shared) entered in
      let strictly : IsStrictlySortedBy (λ x y. key_cmp (key_of texts x) (key_of texts y)) kept = subst (IsStrictlySortedBy (λ x y. key_cmp (key_of texts x) (key_of texts y))) (sym once) (IsStrictlySortedBy-dedup (on_total (key_of texts) key_total) same_is sorted ascends) in
      let words_back : All (HasWord texts shared) back = subst (All (HasWord texts shared)) (sym turned) (numbered_have_words shared (reverse entered)) in
      let words : All (HasWord texts shared) kept = subst (All (HasWord texts shared)) (sym once) (All-dedup (same_slots texts) (HasWord texts shared) sorted (All-permutation (HasWord texts shared) back sorted moved words_back)) in
      let values : (first second : List ℕ) → last_value first second (entries_in texts kept) ≡ last_value first second (entries_in texts entered) = λ first second.
      last_value_by_key shared first second kept words
      ∙ ap (option_map (λ s. s.value)) (last_kept key_total key_cmp-IsAntisymmetric (key_of texts) (word_at shared first, (first, second)) (same_slots texts) same_is slots back sorted kept (turned ∙ reverse_map (slot_with_word texts shared) entered) ascends stable once strictly)
      ∙ sym (last_value_by_key shared first second slots (numbered_have_words shared entered))
      ∙ ap (last_value first second) (entries_of_numbered shared entered) in
      record {
        sorted = strictly;
        words = words;
        within = subst (All (IsWithin texts)) (sym once) (All-dedup (same_slots texts) (IsWithin texts) sorted (All-permutation (IsWithin texts) back sorted moved (subst (All (IsWithin texts)) (sym turned) (numbered_within shared (reverse entered) (reversed_within entered within)))));
        values = values;
        count = sym (count_sorted shared kept strictly words) ∙ count_same (entries_in texts kept) (entries_in texts entered) values;
      }
