-- Which bytes a path has as triples, by the masks of the sets.
--
-- 1. Below 128 each byte is tried (`all_below`); from there on every byte is a triple.
-- 2. So a set and a test agree on every byte, and a text that is encoded by the set is the text that the test gives.
use Rattle.std.proofs.Common.{◌≡◌, ℕ, zero, suc, ◌<◌, Bool, true, false, not, ◌&&◌, ◌||◌, if◌then◌else◌, List, [], ◌∷◌, ◌++◌, flat_map, refl, sym, ap, subst, ◌∙◌, ltb-true, arith, inl, inr, not-suc-le-zero}
use Rattle.std.proofs.lemmas.Bool.{cases_lt, and_parts}
use Rattle.std.specs.Char.{is_ascii}
use Rattle.percent_encoding.specs.declared.ascii_set.AsciiSet.{AsciiSet}
use Rattle.percent_encoding.specs.AsciiSet.{contains, should_percent_encode}
use Rattle.percent_encoding.specs.Percent.{percent_encode, percent_encode_byte, encode_byte}

-- each number below n passes
unfoldable pub all_below : (ℕ → Bool) → ℕ → Bool
all_below p zero = true
all_below p (suc n) = p n && all_below p n

all_below-at : (p : ℕ → Bool) (n j : ℕ) → all_below p n ≡ true → j < n → p j ≡ true
unfolding all_below
all_below-at p zero j h lt = absurd (not-suc-le-zero lt)
all_below-at p (suc n) j h lt =
    let parts = and_parts (p n) (all_below p n) h in
    elim (cases_lt j n) [
      | inl below ↦ all_below-at p n j parts.1 below
      | inr last ↦ let at : n ≡ j = omega arith in subst (λ k. p k ≡ true) at parts.0
    ]

unfoldable pub same : Bool → Bool → Bool
same true b = b
same false b = not b

same_are : (a b : Bool) → same a b ≡ true → a ≡ b
unfolding same
same_are true true e = refl
same_are true false e = sym e
same_are false true e = e
same_are false false e = refl

pub none_of : (a b : Bool) → a ≡ false → (a && b) ≡ false
none_of a b e = ap (λ x. x && b) e

unfoldable pub encodes : AsciiSet → (ℕ → Bool) → ℕ → Bool
encodes set kept b = same (should_percent_encode set b) (not (kept b))

-- the set has below 128 what isn't kept
unfoldable pub encodes_all : AsciiSet → (ℕ → Bool) → Bool
encodes_all set kept = all_below (encodes set kept) 128

beyond : (set : AsciiSet) (kept : ℕ → Bool) (b : ℕ) → is_ascii b ≡ false → kept b ≡ false → should_percent_encode set b ≡ not (kept b)
unfolding should_percent_encode
beyond set kept b outside none = ap (λ x. not x || contains set b) outside ∙ sym (ap not none)

by_range : (set : AsciiSet) (kept : ℕ → Bool) → ((b : ℕ) → is_ascii b ≡ false → kept b ≡ false) → encodes_all set kept ≡ true → (b : ℕ) (inside : Bool) → is_ascii b ≡ inside
    → should_percent_encode set b ≡ not (kept b)
unfolding encodes_all encodes
by_range set kept outside all b true is =
    same_are (should_percent_encode set b) (not (kept b)) (all_below-at (encodes set kept) 128 b all (ltb-true b 128 is))
by_range set kept outside all b false is = beyond set kept b is (outside b is)

-- so it encodes each byte that isn't kept
pub encodes_others : (set : AsciiSet) (kept : ℕ → Bool) → ((b : ℕ) → is_ascii b ≡ false → kept b ≡ false) → encodes_all set kept ≡ true → (b : ℕ)
    → should_percent_encode set b ≡ not (kept b)
encodes_others set kept outside all b = by_range set kept outside all b (is_ascii b) refl

one_byte : (set : AsciiSet) (b : ℕ) (kept : Bool) → should_percent_encode set b ≡ not kept → encode_byte set b ≡ (if kept then b ∷ [] else percent_encode_byte b)
one_byte set b true is = ap (λ x. if x then percent_encode_byte b else b ∷ []) is
one_byte set b false is = ap (λ x. if x then percent_encode_byte b else b ∷ []) is

all_bytes : (set : AsciiSet) (kept : ℕ → Bool) → ((b : ℕ) → should_percent_encode set b ≡ not (kept b)) → (text : List ℕ)
    → flat_map (encode_byte set) text ≡ flat_map (λ b. if kept b then b ∷ [] else percent_encode_byte b) text
all_bytes set kept is [] = refl
all_bytes set kept is (b ∷ text) =
    ap (λ x. x ++ flat_map (encode_byte set) text) (one_byte set b (kept b) (is b))
    ∙ ap (λ more. (if kept b then b ∷ [] else percent_encode_byte b) ++ more) (all_bytes set kept is text)

-- a text that is encoded by the set
pub encoded_is : (set : AsciiSet) (kept : ℕ → Bool) → ((b : ℕ) → should_percent_encode set b ≡ not (kept b)) → (text : List ℕ)
    → percent_encode set text ≡ flat_map (λ b. if kept b then b ∷ [] else percent_encode_byte b) text
unfolding percent_encode
encoded_is set kept is text = all_bytes set kept is text
