-- Lists to which what is new is added.
use Rattle.std.proofs.Common.{◌≡◌, ◌⊎◌, ◌<◌, ◌≤◌, ℕ, zero, suc, Bool, true, false, true≢false, ◌||◌, List, [], ◌∷◌, ◌++◌, length, take, slice_get, Option, Some, None, Contains, flat_map, ◌+◌, length-append, length-take-le, take_all, refl, sym, ap, subst, ◌∙◌, append_assoc, append-nil, inl, inr, ⊎_elim, arith, if◌then◌else◌, eq-or-lt_of_le}
use Rattle.std.specs.List.{IsDistinct, AllByRecursion}
use Rattle.std.proofs.lemmas.List.Elements.{Contains-push_cases}
use Rattle.std.proofs.lemmas.List.Folds.{list_any-append}
use Rattle.std.specs.Option.{option_map_or}
use Rattle.std.specs.List.{enumerate_from}
use Rattle.std.proofs.lemmas.List.Concat.{flat_map-append}
use Rattle.ref_reach.specs.inner.Closing.{is_in, with_one, with_new, next_at, followed, given_by, counted_by}

or_false : (b : Bool) → (b || false) ≡ b
or_false true = refl
or_false false = refl

or_true : (b : Bool) → (b || true) ≡ true
or_true true = refl
or_true false = refl

kept : (b c : Bool) → b ≡ true → (b || c) ≡ true
kept true c so = refl
kept false c so = absurd (true≢false (sym so))

two_ways : (b : Bool) → (b ≡ true) ⊎ (b ≡ false)
two_ways true = inl refl
two_ways false = inr refl

pub cons_cases : {X : Type 0} (x : X) (xs : List X) (y : X) → Contains (x ∷ xs) y → (x ≡ y) ⊎ Contains xs y
cons_cases x xs y (zero, within, is) = inl is
cons_cases x xs y (suc k, within, is) = inr (k, omega (arith, within), is)

got_before : {X : Type 0} (xs ys : List X) (i : ℕ) (y : X) → slice_get xs i ≡ Some y → slice_get (xs ++ ys) i ≡ Some y
got_before [] ys i y is = absurd (cc)
got_before (x ∷ xs) ys zero y is = is
got_before (x ∷ xs) ys (suc i) y is = got_before xs ys i y is

some_is : {X : Type 0} {x y : X} → Some x ≡ Some y → x ≡ y
some_is e = cc

none_or_one : {X : Type 0} (o : Option X) → (o ≡ None) ⊎ ((x : X) × (o ≡ Some x))
none_or_one None = inl refl
none_or_one (Some x) = inr (x, refl)

-- an element is at its number
number_of : {X : Type 0} (xs : List X) (y : X) → Contains xs y → (i : ℕ) × (i < length xs) × (slice_get xs i ≡ Some y)
number_of [] y (k, within, is) = absurd (omega (arith, within))
number_of (x ∷ xs) y (zero, within, is) = (0, within, ap Some is)
number_of (x ∷ xs) y (suc k, within, is) =
    let later = number_of xs y (k, omega (arith, within), is) in
    (suc later.0, omega (arith, later.1), later.2)

within_get : {X : Type 0} (xs : List X) (i : ℕ) → i < length xs → (x : X) × (slice_get xs i ≡ Some x)
within_get [] i within = absurd (omega (arith, within))
within_get (x ∷ xs) zero within = (x, refl)
within_get (x ∷ xs) (suc i) within = within_get xs i (omega (arith, within))

past_none : {X : Type 0} (xs : List X) (i : ℕ) → length xs ≤ i → slice_get xs i ≡ None
past_none [] i past = refl
past_none (x ∷ xs) zero past = absurd (omega (arith, past))
past_none (x ∷ xs) (suc i) past = past_none xs i (omega (arith, past))

is_past : {X : Type 0} (xs : List X) (i : ℕ) → slice_get xs i ≡ None → length xs ≤ i
is_past [] i is = omega arith
is_past (x ∷ xs) zero is = absurd (cc)
is_past (x ∷ xs) (suc i) is = omega (arith, is_past xs i is)

is_within : {X : Type 0} (xs : List X) (i : ℕ) (p : X) → slice_get xs i ≡ Some p → i < length xs
is_within [] i p is = absurd (cc)
is_within (x ∷ xs) zero p is = omega arith
is_within (x ∷ xs) (suc i) p is = omega (arith, is_within xs i p is)

contains_at : {X : Type 0} (xs : List X) (i : ℕ) (p : X) → slice_get xs i ≡ Some p → Contains xs p
contains_at [] i p is = absurd (cc)
contains_at (x ∷ xs) zero p is = (0, omega arith, some_is is)
contains_at (x ∷ xs) (suc i) p is =
    let later = contains_at xs i p is in
    (suc later.0, omega (arith, later.1), later.2)

taken_up_to : {X : Type 0} (xs ys : List X) (i : ℕ) (p : X) → slice_get xs i ≡ Some p → take (suc i) (xs ++ ys) ≡ take i xs ++ p ∷ []
taken_up_to [] ys i p is = absurd (cc)
taken_up_to (x ∷ xs) ys zero p is = ap (λ z. z ∷ []) (some_is is)
taken_up_to (x ∷ xs) ys (suc i) p is = ap (λ l. x ∷ l) (taken_up_to xs ys i p is)

last_or_less : (i n : ℕ) → i < suc n → (i ≡ n) ⊎ (i < n)
last_or_less i n before = ⊎_elim inl (λ less. inr less) (eq-or-lt_of_le (omega (arith, before)))

enumerate-push : {X : Type 0} (n : ℕ) (xs : List X) (y : X) → enumerate_from n (xs ++ y ∷ []) ≡ enumerate_from n xs ++ (n + length xs, y) ∷ []
enumerate-push n [] y = let e : n ≡ n + 0 = omega arith in ap (λ k. (k, y) ∷ []) e
enumerate-push n (x ∷ xs) y =
    let e : (n + 1) + length xs ≡ n + suc (length xs) = omega arith in
    ap (λ l. (n, x) ∷ l) (enumerate-push (n + 1) xs y ∙ ap (λ k. enumerate_from (n + 1) xs ++ (k, y) ∷ []) e)

one_joined : {X Y : Type 0} (f : X → List Y) (xs : List X) (x : X) → flat_map f xs ++ f x ≡ flat_map f (xs ++ x ∷ [])
one_joined f xs x = ap (λ l. flat_map f xs ++ l) (sym (append-nil (f x))) ∙ sym (flat_map-append f xs (x ∷ []))

one_more : {X Y : Type 0} (f : ℕ × X → List Y) (k : ℕ) (xs : List X) (x : X) → flat_map f (enumerate_from k xs) ++ f (k + length xs, x) ≡ flat_map f (enumerate_from k (xs ++ x ∷ []))
one_more f k xs x = one_joined f (enumerate_from k xs) (k + length xs, x) ∙ ap (flat_map f) (sym (enumerate-push k xs x))

module _ {X : Type 0} (same : X → X → Bool) where
  -- ---- what is added
  pub one_is_old : (xs : List X) (x : X) → is_in same xs x ≡ true → with_one same xs x ≡ xs
  one_is_old xs x so = ap (λ b. if b then xs else xs ++ x ∷ []) so

  pub one_is_new : (xs : List X) (x : X) → is_in same xs x ≡ false → with_one same xs x ≡ xs ++ x ∷ []
  one_is_new xs x so = ap (λ b. if b then xs else xs ++ x ∷ []) so

  -- ---- is there
  pub one_keeps : (xs : List X) (x y : X) → is_in same xs y ≡ true → is_in same (with_one same xs x) y ≡ true
  one_keeps xs x y there =
      ⊎_elim
      (λ old. subst (λ l. is_in same l y ≡ true) (sym (one_is_old xs x old)) there)
      (λ new. subst (λ l. is_in same l y ≡ true) (sym (one_is_new xs x new)) (list_any-append (λ z. same z y) xs (x ∷ []) ∙ kept (is_in same xs y) (is_in same (x ∷ []) y) there))
      (two_ways (is_in same xs x))

  pub one_has : ((z : X) → same z z ≡ true) → (xs : List X) (x : X) → is_in same (with_one same xs x) x ≡ true
  one_has itself xs x =
      ⊎_elim
      (λ old. subst (λ l. is_in same l x ≡ true) (sym (one_is_old xs x old)) old)
      (λ new. subst (λ l. is_in same l x ≡ true) (sym (one_is_new xs x new)) (list_any-append (λ z. same z x) xs (x ∷ []) ∙ ap (λ b. is_in same xs x || (b || false)) (itself x) ∙ or_true (is_in same xs x)))
      (two_ways (is_in same xs x))

  pub new_keeps : (more xs : List X) (y : X) → is_in same xs y ≡ true → is_in same (with_new same xs more) y ≡ true
  new_keeps [] xs y there = there
  new_keeps (x ∷ more) xs y there = new_keeps more (with_one same xs x) y (one_keeps xs x y there)

  pub new_has : ((z : X) → same z z ≡ true) → (more xs : List X) (y : X) → Contains more y → is_in same (with_new same xs more) y ≡ true
  new_has itself [] xs y (k, within, is) = absurd (omega (arith, within))
  new_has itself (x ∷ more) xs y among =
      ⊎_elim
      (λ is. new_keeps more (with_one same xs x) y (subst (λ z. is_in same (with_one same xs x) z ≡ true) is (one_has itself xs x)))
      (λ later. new_has itself more (with_one same xs x) y later)
      (cons_cases x more y among)

  -- ---- nothing else
  pub one_all : (P : X → Type 0) (xs : List X) (x : X) → ((y : X) → Contains xs y → P y) → P x → (y : X) → Contains (with_one same xs x) y → P y
  one_all P xs x old so y among =
      ⊎_elim
      (λ is. old y (subst (λ l. Contains l y) (one_is_old xs x is) among))
      (λ is. ⊎_elim (λ before. old y before) (λ e. subst P e so) (Contains-push_cases xs x y (subst (λ l. Contains l y) (one_is_new xs x is) among)))
      (two_ways (is_in same xs x))

  pub new_all : (P : X → Type 0) (more xs : List X) → ((y : X) → Contains xs y → P y) → ((y : X) → Contains more y → P y) → (y : X) → Contains (with_new same xs more) y → P y
  new_all P [] xs old so y among = old y among
  new_all P (x ∷ more) xs old so y among =
      new_all P more (with_one same xs x) (one_all P xs x old (so x (0, omega (arith), refl))) (λ z later. so z (suc later.0, omega (arith, later.1), later.2)) y among

  -- ---- none twice
  apart_push : (x y : X) (xs : List X) → AllByRecursion (λ z. same x z ≡ false) xs → same x y ≡ false → AllByRecursion (λ z. same x z ≡ false) (xs ++ y ∷ [])
  apart_push x y [] apart so = (so, tt)
  apart_push x y (z ∷ xs) apart so = (apart.0, apart_push x y xs apart.1 so)

  or_parts : (b c : Bool) → (b || c) ≡ false → (b ≡ false) × (c ≡ false)
  or_parts false c so = (refl, so)
  or_parts true c so = absurd (true≢false so)

  distinct_push : (xs : List X) (y : X) → IsDistinct same xs → is_in same xs y ≡ false → IsDistinct same (xs ++ y ∷ [])
  unfolding IsDistinct
  distinct_push [] y distinct so = (tt, tt)
  distinct_push (x ∷ xs) y distinct so =
      let parts = or_parts (same x y) (is_in same xs y) so in
      (apart_push x y xs distinct.0 parts.0, distinct_push xs y distinct.1 parts.1)

  distinct_nil : IsDistinct same []
  unfolding IsDistinct
  distinct_nil = tt

  pub one_distinct : (xs : List X) (x : X) → IsDistinct same xs → IsDistinct same (with_one same xs x)
  one_distinct xs x distinct =
      ⊎_elim
      (λ old. subst (IsDistinct same) (sym (one_is_old xs x old)) distinct)
      (λ new. subst (IsDistinct same) (sym (one_is_new xs x new)) (distinct_push xs x distinct new))
      (two_ways (is_in same xs x))

  pub new_distinct : (more xs : List X) → IsDistinct same xs → IsDistinct same (with_new same xs more)
  new_distinct [] xs distinct = distinct
  new_distinct (x ∷ more) xs distinct = new_distinct more (with_one same xs x) (one_distinct xs x distinct)

  -- ---- what is there stays where it is
  pub one_after : (xs : List X) (x : X) → (l : List X) × (with_one same xs x ≡ xs ++ l)
  one_after xs x =
      ⊎_elim
      (λ old. ([], one_is_old xs x old ∙ sym (append-nil xs)))
      (λ new. (x ∷ [], one_is_new xs x new))
      (two_ways (is_in same xs x))

  pub new_after : (more xs : List X) → (l : List X) × (with_new same xs more ≡ xs ++ l)
  new_after [] xs = ([], sym (append-nil xs))
  new_after (x ∷ more) xs =
      let first = one_after xs x in
      let later = new_after more (with_one same xs x) in
      (first.0 ++ later.0, later.1 ∙ ap (λ l. l ++ later.0) first.1 ∙ append_assoc xs first.0 later.0)

  new_at : (more xs : List X) (i : ℕ) (y : X) → slice_get xs i ≡ Some y → slice_get (with_new same xs more) i ≡ Some y
  new_at more xs i y is =
      let after = new_after more xs in
      subst (λ l. slice_get l i ≡ Some y) (sym after.1) (got_before xs after.0 i y is)

  new_of_none : (xs : List X) → with_new same xs [] ≡ xs
  new_of_none xs = refl

  module _ (next : X → List X) (start : List X) where
    abbrev all : ℕ → List X
    all n = followed same next start n

    stays_without : (n : ℕ) → slice_get (all n) n ≡ None → all (suc n) ≡ all n
    stays_without n none = ap (λ o. with_new same (all n) (option_map_or next o [])) none

    pub grows_with : (n : ℕ) (p : X) → slice_get (all n) n ≡ Some p → all (suc n) ≡ with_new same (all n) (next p)
    grows_with n p is = ap (λ o. with_new same (all n) (option_map_or next o [])) is

    -- ---- what the beginning has is there
    pub start_is_in : ((z : X) → same z z ≡ true) → (n : ℕ) (p : X) → Contains start p → is_in same (all n) p ≡ true
    start_is_in itself zero p among = new_has itself start [] p among
    start_is_in itself (suc n) p among = new_keeps (next_at next (all n) n) (all n) p (start_is_in itself n p among)

    -- ---- nothing else is
    pub all_are : (P : X → Type 0) → ((p : X) → Contains start p → P p) → ((q p : X) → P q → Contains (next q) p → P p) → (n : ℕ) (p : X) → Contains (all n) p → P p
    all_are P begun step zero p among = new_all P start [] (λ y no. absurd (omega (arith, no.1))) begun p among
    all_are P begun step (suc n) p among =
        ⊎_elim
        (λ none. all_are P begun step n p (subst (λ l. Contains l p) (stays_without n none) among))
        (λ some. new_all P (next some.0) (all n) (all_are P begun step n)
        (λ y later. step some.0 y (all_are P begun step n some.0 (contains_at (all n) n some.0 some.1)) later)
        p (subst (λ l. Contains l p) (grows_with n some.0 some.1) among))
        (none_or_one (slice_get (all n) n))

    -- ---- none is there twice
    pub all_distinct : (n : ℕ) → IsDistinct same (all n)
    all_distinct zero = new_distinct start [] (distinct_nil)
    all_distinct (suc n) = new_distinct (next_at next (all n) n) (all n) (all_distinct n)

    -- ---- what is next to the first n is there
    pub closed_up_to : ((z : X) → same z z ≡ true) → (n i : ℕ) (q p : X) → i < n → slice_get (all n) i ≡ Some q → Contains (next q) p → is_in same (all n) p ≡ true
    closed_up_to itself zero i q p before at near = absurd (omega (arith, before))
    closed_up_to itself (suc n) i q p before at near =
        ⊎_elim
        (λ none.
        let here : slice_get (all n) i ≡ Some q = subst (λ l. slice_get l i ≡ Some q) (stays_without n none) at in
        let short : i < length (all n) = is_within (all n) i q here in
        let past : length (all n) ≤ n = is_past (all n) n none in
        subst (λ l. is_in same l p ≡ true) (sym (stays_without n none)) (closed_up_to itself n i q p (omega (arith, short, past)) here near))
        (λ some.
        let whole : slice_get (with_new same (all n) (next some.0)) i ≡ Some q = subst (λ l. slice_get l i ≡ Some q) (grows_with n some.0 some.1) at in
        let long : n < length (all n) = is_within (all n) n some.0 some.1 in
        let here = within_get (all n) i (omega (arith, before, long)) in
        let same_one : here.0 ≡ q = some_is (sym (new_at (next some.0) (all n) i here.0 here.1) ∙ whole) in
        ⊎_elim
        (λ last.
        let is : some.0 ≡ q = some_is (sym some.1 ∙ subst (λ k. slice_get (all n) k ≡ Some here.0) last here.1) ∙ same_one in
        subst (λ l. is_in same l p ≡ true) (sym (grows_with n some.0 some.1)) (new_has itself (next some.0) (all n) p (subst (λ z. Contains (next z) p) (sym is) near)))
        (λ less. subst (λ l. is_in same l p ≡ true) (sym (grows_with n some.0 some.1))
        (new_keeps (next some.0) (all n) p (closed_up_to itself n i q p less (here.1 ∙ ap Some same_one) near)))
        (last_or_less i n before))
        (none_or_one (slice_get (all n) n))

    -- ---- where nothing more is at n
    pub closed_at : ((z : X) → same z z ≡ true) → (n : ℕ) → slice_get (all n) n ≡ None → (q p : X) → Contains (all n) q → Contains (next q) p → is_in same (all n) p ≡ true
    closed_at itself n none q p among near =
        let at = number_of (all n) q among in
        closed_up_to itself n at.0 q p (omega (arith, at.1, is_past (all n) n none)) at.2 near

    -- ---- what is made of each of them in turn
    taken_without : (n : ℕ) → slice_get (all n) n ≡ None → take (suc n) (all (suc n)) ≡ take n (all n)
    taken_without n none =
        ap (take (suc n)) (stays_without n none) ∙ take_all (suc n) (all n) (omega (arith, is_past (all n) n none)) ∙ sym (take_all n (all n) (is_past (all n) n none))

    taken_with : (n : ℕ) (p : X) → slice_get (all n) n ≡ Some p → take (suc n) (all (suc n)) ≡ take n (all n) ++ p ∷ []
    taken_with n p is =
        let after = new_after (next p) (all n) in
        ap (take (suc n)) (grows_with n p is ∙ after.1) ∙ taken_up_to (all n) after.0 n p is

    pub given_is : {Y : Type 0} (f : ℕ × X → List Y) (k n : ℕ) → given_by same next start f k n ≡ flat_map f (enumerate_from k (take n (all n)))
    given_is f k zero = refl
    given_is f k (suc n) =
        ⊎_elim
        (λ none. ap (λ o. given_by same next start f k n ++ option_map_or (λ p. f (k + n, p)) o []) none ∙ append-nil (given_by same next start f k n) ∙ given_is f k n
        ∙ ap (λ l. flat_map f (enumerate_from k l)) (sym (taken_without n none)))
        (λ some.
        let long : length (take n (all n)) ≡ n = length-take-le n (all n) (omega (arith, is_within (all n) n some.0 some.1)) in
        ap (λ o. given_by same next start f k n ++ option_map_or (λ p. f (k + n, p)) o []) some.1 ∙ ap (λ l. l ++ f (k + n, some.0)) (given_is f k n)
        ∙ ap (λ m. flat_map f (enumerate_from k (take n (all n))) ++ f (k + m, some.0)) (sym long)
        ∙ one_more f k (take n (all n)) some.0
        ∙ ap (λ l. flat_map f (enumerate_from k l)) (sym (taken_with n some.0 some.1)))
        (none_or_one (slice_get (all n) n))

    pub counted_is : {Y : Type 0} (f : X → List Y) (n : ℕ) → counted_by same next start f n ≡ length (flat_map f (take n (all n)))
    counted_is f zero = refl
    counted_is f (suc n) =
        ⊎_elim
        (λ none.
        let none_more : counted_by same next start f n + 0 ≡ counted_by same next start f n = omega arith in
        ap (λ o. counted_by same next start f n + option_map_or (λ p. length (f p)) o 0) none ∙ none_more ∙ counted_is f n
        ∙ ap (λ l. length (flat_map f l)) (sym (taken_without n none)))
        (λ some.
        ap (λ o. counted_by same next start f n + option_map_or (λ p. length (f p)) o 0) some.1 ∙ ap (λ m. m + length (f some.0)) (counted_is f n)
        ∙ sym (length-append (flat_map f (take n (all n))) (f some.0))
        ∙ ap length (one_joined f (take n (all n)) some.0)
        ∙ ap (λ l. length (flat_map f l)) (sym (taken_with n some.0 some.1)))
        (none_or_one (slice_get (all n) n))

    pub given_at_end : {Y : Type 0} (f : ℕ × X → List Y) (k n : ℕ) → slice_get (all n) n ≡ None → given_by same next start f k n ≡ flat_map f (enumerate_from k (all n))
    given_at_end f k n none = given_is f k n ∙ ap (λ l. flat_map f (enumerate_from k l)) (take_all n (all n) (is_past (all n) n none))

    pub counted_at_end : {Y : Type 0} (f : X → List Y) (n : ℕ) → slice_get (all n) n ≡ None → counted_by same next start f n ≡ length (flat_map f (all n))
    counted_at_end f n none = counted_is f n ∙ ap (λ l. length (flat_map f l)) (take_all n (all n) (is_past (all n) n none))
