-- What the ends of a path have, one byte after another.
use Rattle.std.proofs.Common.{◌≡◌, ◌≤◌, ◌<◌, ◌-◌, ◌+◌, ℕ, zero, suc, List, [], ◌∷◌, ◌++◌, Bool, false, length, drop, get_or, refl, sym, ap, ◌∙◌, arith, drop-cons, length-append, inl, inr, subst, ap₂, le_of_suc-le-suc, le_of_lt, le_trans, le_refl, add-one, drop_of_length-le, ◌==◌, ◌&&◌, ◌||◌, not, true, if◌then◌else◌}
use Rattle.ref_patterns.specs.declared.pattern.Part.{Part}
use Rattle.ref_patterns.specs.declared.pattern.Part.TheVariants as part
use Rattle.ref_patterns.specs.Patterns.{matches, after_character, after_slash, goes_on}
use Rattle.ref_patterns.specs.inner.Ends.{end_of, matched, AreOf}
use lib.ListN.{get_or-append}
use lib.Seq.{get_or-append_seam}
use native.Mathlib.Nat.{eq-or-lt_of_le}

-- a longer end is a byte and the end after it
pub end_cons : (s : List ℕ) (k : ℕ) → k < length s → end_of s (suc k) ≡ get_or s (length s - 1 - k) 0 ∷ end_of s k
end_cons s k h =
    let a : length s - suc k ≡ length s - 1 - k = omega (arith, h) in
    let b : suc (length s - 1 - k) ≡ length s - k = omega (arith, h) in
    let c : length s - 1 - k < length s = omega (arith, h) in
    ap (λ i. drop i s) a ∙ drop-cons s (length s - 1 - k) 0 c ∙ ap (λ i. get_or s (length s - 1 - k) 0 ∷ drop i s) b

-- as many ends as are asked for
pub matched_length : (p : List Part) (s : List ℕ) (n : ℕ) → length (matched p s n) ≡ n
matched_length p s zero = refl
matched_length p s (suc n) =
    let e = matched_length p s n in
    length-append (matched p s n) (matches p (end_of s n) ∷ []) ∙ omega (arith, e)

-- what one of them has
pub matched_at : (p : List Part) (s : List ℕ) (n k : ℕ) → k < n → get_or (matched p s n) k false ≡ matches p (end_of s k)
matched_at p s zero k h = absurd (omega (arith, h))
matched_at p s (suc n) k h = elim (eq-or-lt_of_le (le_of_suc-le-suc h)) [ inl e ↦ last e | inr r ↦ earlier r (matched_at p s n k r) ]
  where
    last : k ≡ n → get_or (matched p s (suc n)) k false ≡ matches p (end_of s k)
    last e =
        ap (λ (i : ℕ). get_or (matched p s n ++ matches p (end_of s n) ∷ []) i false) (e ∙ sym (matched_length p s n))
        ∙ get_or-append_seam (matched p s n) (matches p (end_of s n)) [] false
        ∙ ap (λ (i : ℕ). matches p (end_of s i)) (sym e)

    earlier : k < n → get_or (matched p s n) k false ≡ matches p (end_of s k) → get_or (matched p s (suc n)) k false ≡ matches p (end_of s k)
    earlier r before =
        get_or-append (matched p s n) (matches p (end_of s n) ∷ []) false k (subst (λ (i : ℕ). k < i) (sym (matched_length p s n)) r)
        ∙ before

-- one end more
pub more : (p : List Part) (s : List ℕ) (k : ℕ) → matched p s (k + 1) ≡ matched p s k ++ matches p (end_of s k) ∷ []
more p s k = ap (matched p s) (add-one k)

pub longer : (s : List ℕ) (k : ℕ) → k < length s → end_of s (k + 1) ≡ get_or s (length s - 1 - k) 0 ∷ end_of s k
longer s k h = ap (end_of s) (add-one k) ∙ end_cons s k h

-- the end without bytes
pub none : (s : List ℕ) → end_of s 0 ≡ []
none s = drop_of_length-le s (omega arith)

or_false : (b : Bool) → (b || false) ≡ b
or_false true = refl
or_false false = refl

pub name_none : (p : List Part) (s : List ℕ) → matches (part.Name ∷ p) (end_of s 0) ≡ matches p (end_of s 0)
name_none p s = ap (matches (part.Name ∷ p)) (none s) ∙ sym (ap (matches p) (none s))

pub slash_none : (p : List Part) (s : List ℕ) → after_slash (matches p) (end_of s 0) ≡ false
slash_none p s = ap (after_slash (matches p)) (none s)

pub folders_none : (p : List Part) (s : List ℕ) → matches (part.Folders ∷ p) (end_of s 0) ≡ matches p (end_of s 0)
folders_none p s = ap (λ (b : Bool). matches p (end_of s 0) || b) (slash_none p s) ∙ or_false (matches p (end_of s 0))

-- nothing matches the end without bytes alone
pub nothing_none : (s : List ℕ) → matches [] (end_of s 0) ≡ true
nothing_none s = ap (matches []) (none s)

pub nothing_more : (s : List ℕ) (k : ℕ) → k < length s → matches [] (end_of s (k + 1)) ≡ false
nothing_more s k h = ap (matches []) (longer s k h)

-- what an end of a whole list has
pub end_at : (p : List Part) (s : List ℕ) (items : List Bool) (k : ℕ) → AreOf p s items → k ≤ length s → get_or items k false ≡ matches p (end_of s k)
end_at p s items k are h = ap (λ (l : List Bool). get_or l k false) are ∙ matched_at p s (length s + 1) k (omega (arith, h))

-- whether an end is matched that begins with a byte more, by each kind of part
pub byte_end : (p : List Part) (s : List ℕ) (items : List Bool) (byte k : ℕ) → AreOf p s items → k < length s
    → ((get_or s (length s - 1 - k) 0 == byte) && get_or items k false) ≡ matches (part.Byte byte ∷ p) (end_of s (k + 1))
byte_end p s items byte k are h =
    ap (λ (b : Bool). (get_or s (length s - 1 - k) 0 == byte) && b) (end_at p s items k are (le_of_lt h))
    ∙ sym (ap (matches (part.Byte byte ∷ p)) (longer s k h))

pub character_end : (p : List Part) (s : List ℕ) (items : List Bool) (k after : ℕ) → AreOf p s items → k < length s → after ≤ k → after_character (end_of s k) ≡ end_of s after
    → (not (get_or s (length s - 1 - k) 0 == 47) && get_or items after false) ≡ matches (part.Character ∷ p) (end_of s (k + 1))
character_end p s items k after are h few is =
    ap (λ (b : Bool). not (get_or s (length s - 1 - k) 0 == 47) && b) (end_at p s items after are (le_trans few (le_of_lt h)) ∙ sym (ap (matches p) is))
    ∙ sym (ap (matches (part.Character ∷ p)) (longer s k h))

pub name_end : (p : List Part) (s : List ℕ) (items : List Bool) (is_within : Bool) (k : ℕ) → AreOf p s items → k < length s → is_within ≡ matches (part.Name ∷ p) (end_of s k)
    → (get_or items (k + 1) false || (not (get_or s (length s - 1 - k) 0 == 47) && is_within)) ≡ matches (part.Name ∷ p) (end_of s (k + 1))
name_end p s items is_within k are h is =
    ap₂ (λ (a b : Bool). a || (not (get_or s (length s - 1 - k) 0 == 47) && b)) (end_at p s items (k + 1) are (omega (arith, h)) ∙ ap (matches p) (longer s k h)) is
    ∙ sym (ap (matches (part.Name ∷ p)) (longer s k h))

pub slash_end : (p : List Part) (s : List ℕ) (items : List Bool) (is_after : Bool) (k : ℕ) → AreOf p s items → k < length s → is_after ≡ after_slash (matches p) (end_of s k)
    → (((get_or s (length s - 1 - k) 0 == 47) && get_or items k false) || is_after) ≡ after_slash (matches p) (end_of s (k + 1))
slash_end p s items is_after k are h is =
    ap₂ (λ (a b : Bool). ((get_or s (length s - 1 - k) 0 == 47) && a) || b) (end_at p s items k are (le_of_lt h)) is
    ∙ sym (ap (after_slash (matches p)) (longer s k h))

pub folders_end : (p : List Part) (s : List ℕ) (items : List Bool) (is_after : Bool) (k : ℕ) → AreOf p s items → k ≤ length s → is_after ≡ after_slash (matches p) (end_of s k)
    → (get_or items k false || is_after) ≡ matches (part.Folders ∷ p) (end_of s k)
folders_end p s items is_after k are h is = ap₂ (λ (a b : Bool). a || b) (end_at p s items k are h) is

-- what is after the bytes that go on with a character, with a byte more
pub after_end : (s : List ℕ) (k after : ℕ) → k < length s → after_character (end_of s k) ≡ end_of s after
    → after_character (end_of s (k + 1)) ≡ end_of s (if goes_on (get_or s (length s - 1 - k) 0) then after else k + 1)
after_end s k after h is = ap after_character (longer s k h) ∙ by (goes_on (get_or s (length s - 1 - k) 0)) refl
  where
    by : (b : Bool) → goes_on (get_or s (length s - 1 - k) 0) ≡ b
        → after_character (get_or s (length s - 1 - k) 0 ∷ end_of s k) ≡ end_of s (if goes_on (get_or s (length s - 1 - k) 0) then after else k + 1)
    by true e = rw e (is)
    by false e = rw e (sym (longer s k h))

pub few_after : (b : Bool) (k after : ℕ) → after ≤ k → (if b then after else k + 1) ≤ k + 1
few_after true k after h = omega (arith, h)
few_after false k after h = le_refl (k + 1)

-- the whole path
pub whole : (s : List ℕ) → end_of s (length s) ≡ s
whole s = ap (λ (n : ℕ). drop n s) (sub_self (length s))
  where
    sub_self : (n : ℕ) → n - n ≡ 0
    sub_self n = omega arith
