-- What `src/scan.rt` rests on: bytes as numbers, subtraction with borrow byte by byte, and the lowest mark. In this order:
-- 1. A word of bytes is a number, its first byte the lowest.
-- 2. Marks of zeros: taking 1 from each byte borrows at a byte that is 0, so the high bit of the first such byte is marked, and of none
--    before it. Beyond the first mark a borrow may make others, which are not looked at.
-- 3. A byte is a given one where its exclusive or with that one is 0; the marks of two tests are joined by `or`.
-- 4. The count of zeros below the lowest mark shows where the first byte is that passes.
use Rattle.std.proofs.Common.{◌≡◌, ⊎_elim, add-zero, ℕ, zero, suc, ◌+◌, ◌-◌, ◌*◌, ◌/◌, ◌%◌, ◌^◌, ◌<◌, Bool, true, false, not, ◌||◌, cond, eqb, ltb, List, [], ◌∷◌, ◌++◌, length, length-append, map, All, bit_and, bit_or, bit_xor, refl, sym, ap, ◌∙◌, subst, zero-add, arith}
use Rattle.std.specs.Prelude.{MatchBool, Some, None}
use Rattle.std.specs.Int.{from_le_bytes, w64}
use Rattle.std.specs.Int.Count.{count_trailing_zeros, under}
use Rattle.std.specs.Int.Bits.{xor_zero_r, xor_zero_l, xor_self, xor_assoc}
use Rattle.std.proofs.Math.Nat.{eq-zero-or-pos}
use Rattle.std.specs.Cmp.{both_ways}
use Rattle.std.specs.List.{position_or_len, position}
use Rattle.std.proofs.lemmas.Bool.{false≢true, ltb-true, ltb-false, eqb-true, eq-eqb, lt-ltb}
use Rattle.std.proofs.lemmas.List.Elements.{All-head, All-tail, All-cons}
use Rattle.std.proofs.lemmas.Nat.{pow-add, mod-pow-add, and_block, or_block, xor_block, and_le_l, and_le_r, xor_lt}
use Rattle.ref_parts.specs.inner.Words.{number, MarksFirst}

-- ---- numbers of bytes

-- a word of ones
abbrev pub ones : ℕ → ℕ
ones zero = 0
ones (suc n) = 1 + 256 * ones n

width : (n : ℕ) → 2 ^ (8 * suc n) ≡ 2 ^ (8 * n) * 256
width n = ap (λ k. 2 ^ k) (omega arith) ∙ pow-add 2 (8 * n) 8

pub ones_lt : (n : ℕ) → ones n < 2 ^ (8 * n)
ones_lt zero = omega arith
ones_lt (suc n) = omega (arith, ones_lt n, width n)

pub number_lt : (bytes : List ℕ) → All (λ b. b < 256) bytes → number bytes < 2 ^ (8 * length bytes)
number_lt [] small = omega arith
number_lt (b ∷ bytes) small =
    omega (arith, number_lt bytes (All-tail (λ b. b < 256) b bytes small), All-head (λ b. b < 256) b bytes small, width (length bytes))

-- what `from_le_bytes` gives
pub number_of_word : (bytes : List ℕ) → length bytes ≡ 8 → from_le_bytes w64 bytes ≡ number bytes
number_of_word [] e = absurd (omega arith)
number_of_word (a ∷ []) e = absurd (omega arith)
number_of_word (a ∷ b ∷ []) e = absurd (omega arith)
number_of_word (a ∷ b ∷ c ∷ []) e = absurd (omega arith)
number_of_word (a ∷ b ∷ c ∷ d ∷ []) e = absurd (omega arith)
number_of_word (a ∷ b ∷ c ∷ d ∷ f ∷ []) e = absurd (omega arith)
number_of_word (a ∷ b ∷ c ∷ d ∷ f ∷ g ∷ []) e = absurd (omega arith)
number_of_word (a ∷ b ∷ c ∷ d ∷ f ∷ g ∷ h ∷ []) e = absurd (omega arith)
number_of_word (a ∷ b ∷ c ∷ d ∷ f ∷ g ∷ h ∷ i ∷ []) e = omega arith
number_of_word (a ∷ b ∷ c ∷ d ∷ f ∷ g ∷ h ∷ i ∷ j ∷ rest) e = absurd (omega arith)

-- ---- marks of zeros

-- what the code computes of a word of n bytes
abbrev pub marks_of : ℕ → ℕ → ℕ
marks_of n x = bit_and (bit_and ((x + (2 ^ (8 * n) - ones n)) % 2 ^ (8 * n)) (2 ^ (8 * n) - 1 - x)) (128 * ones n)

and-zero : (u : ℕ) → 0 + bit_and u 0 ≡ 0
and-zero u = let none = and_le_r u 0 in omega (arith, none)

no_high_bit : (u : ℕ) → u < 128 → bit_and u 128 ≡ 0
no_high_bit u small =
    ap (λ x. bit_and x 128) (sym (zero-add u)) ∙ and_block 7 0 1 u 0 small (omega arith) ∙ and-zero u

-- a byte that is not 0 has no mark where nothing was borrowed from it
no_mark : (c : ℕ) → 0 < c → c < 256 → bit_and (bit_and (c - 1) (255 - c)) 128 ≡ 0
no_mark c some byte =
    elim (ltb c 129) as (λ b. ltb c 129 ≡ b → bit_and (bit_and (c - 1) (255 - c)) 128 ≡ 0) [
      | true ↦ λ yes. let low = ltb-true c 129 yes in no_high_bit _ (omega (arith, low, and_le_l (c - 1) (255 - c)))
      | false ↦ λ no. let high = ltb-false c 129 no in no_high_bit _ (omega (arith, high, and_le_r (c - 1) (255 - c)))
    ] refl

-- the marks of one byte more, where o is the number of ones above it and P the power of its width
above_byte : (n c y : ℕ) → 0 < c → c < 256 → y < 2 ^ (8 * n) → marks_of (suc n) (c + 256 * y) ≡ 256 * marks_of n y
above_byte n c y some byte small =
    let P = 2 ^ (8 * n) in
    let o = ones n in
    let few : o < P = ones_lt n in
    let whole : 2 ^ (8 * suc n) ≡ P * 256 = width n in
    let x = (c + 256 * y) + (2 ^ (8 * suc n) - ones (suc n)) in
    let x_is : x ≡ 256 * (y + (P - o)) + (c - 1) = omega arith in
    let difference : x % 2 ^ (8 * suc n) ≡ ((y + (P - o)) % P) * 2 ^ 8 + (c - 1) =
    ap (λ k. x % 2 ^ k) (omega arith) ∙ mod-pow-add x (8 * n) 8 ∙ ap (λ z. (z / 2 ^ 8 % P) * 2 ^ 8 + z % 2 ^ 8) x_is
    ∙ ap (λ z. (z % P) * 2 ^ 8 + (256 * (y + (P - o)) + (c - 1)) % 2 ^ 8) (omega arith) ∙ ap (λ z. ((y + (P - o)) % P) * 2 ^ 8 + z) (omega arith) in
    let inverse : 2 ^ (8 * suc n) - 1 - (c + 256 * y) ≡ (P - 1 - y) * 2 ^ 8 + (255 - c) = omega arith in
    let high : 128 * ones (suc n) ≡ (128 * o) * 2 ^ 8 + 128 = omega arith in
    ap (λ z. bit_and (bit_and z (2 ^ (8 * suc n) - 1 - (c + 256 * y))) (128 * ones (suc n))) difference
    ∙ ap (λ z. bit_and (bit_and (((y + (P - o)) % P) * 2 ^ 8 + (c - 1)) z) (128 * ones (suc n))) inverse
    ∙ ap (λ z. bit_and (bit_and (((y + (P - o)) % P) * 2 ^ 8 + (c - 1)) ((P - 1 - y) * 2 ^ 8 + (255 - c))) z) high
    ∙ ap (λ z. bit_and z ((128 * o) * 2 ^ 8 + 128)) (and_block 8 ((y + (P - o)) % P) (P - 1 - y) (c - 1) (255 - c) (omega arith) (omega arith))
    ∙ and_block 8 (bit_and ((y + (P - o)) % P) (P - 1 - y)) (128 * o) (bit_and (c - 1) (255 - c)) 128 (omega (arith, and_le_l (c - 1) (255 - c))) (omega arith)
    ∙ ap (λ z. marks_of n y * 2 ^ 8 + z) (no_mark c some byte) ∙ omega arith

-- a byte that is 0 has one, and borrows from those above it
at_zero : (n y : ℕ) → y < 2 ^ (8 * n) → (above : ℕ) × (marks_of (suc n) (0 + 256 * y) ≡ 256 * above + 128)
at_zero n y small =
    let P = 2 ^ (8 * n) in
    let o = ones n in
    let few : o < P = ones_lt n in
    let whole : 2 ^ (8 * suc n) ≡ P * 256 = width n in
    let x = (0 + 256 * y) + (2 ^ (8 * suc n) - ones (suc n)) in
    let left = y + (P - o) - 1 in
    let x_is : x ≡ 256 * left + 255 = omega arith in
    let difference : x % 2 ^ (8 * suc n) ≡ (left % P) * 2 ^ 8 + 255 =
    ap (λ k. x % 2 ^ k) (omega arith) ∙ mod-pow-add x (8 * n) 8 ∙ ap (λ z. (z / 2 ^ 8 % P) * 2 ^ 8 + z % 2 ^ 8) x_is
    ∙ ap (λ z. (z % P) * 2 ^ 8 + (256 * left + 255) % 2 ^ 8) (omega arith) ∙ ap (λ z. (left % P) * 2 ^ 8 + z) (omega arith) in
    let inverse : 2 ^ (8 * suc n) - 1 - (0 + 256 * y) ≡ (P - 1 - y) * 2 ^ 8 + 255 = omega arith in
    let high : 128 * ones (suc n) ≡ (128 * o) * 2 ^ 8 + 128 = omega arith in (
      bit_and (bit_and (left % P) (P - 1 - y)) (128 * o),
      ap (λ z. bit_and (bit_and z (2 ^ (8 * suc n) - 1 - (0 + 256 * y))) (128 * ones (suc n))) difference
          ∙ ap (λ z. bit_and (bit_and ((left % P) * 2 ^ 8 + 255) z) (128 * ones (suc n))) inverse
          ∙ ap (λ z. bit_and (bit_and ((left % P) * 2 ^ 8 + 255) ((P - 1 - y) * 2 ^ 8 + 255)) z) high
          ∙ ap (λ z. bit_and z ((128 * o) * 2 ^ 8 + 128)) (and_block 8 (left % P) (P - 1 - y) 255 255 (omega arith) (omega arith))
          ∙ and_block 8 (bit_and (left % P) (P - 1 - y)) (128 * o) 255 128 (omega arith) (omega arith)
          ∙ omega arith,
    )

pub zeros_first : (bytes : List ℕ) → All (λ b. b < 256) bytes → MarksFirst (λ b. eqb b 0) bytes (marks_of (length bytes) (number bytes))
zeros_first [] small = refl
zeros_first (b ∷ bytes) small =
    let n = length bytes in
    let y = number bytes in
    let rest = All-tail (λ x. x < 256) b bytes small in
    let within = number_lt bytes rest in
    elim (eqb b 0) as (λ t. eqb b 0 ≡ t → (above : ℕ) × MatchBool t (marks_of (suc n) (b + 256 * y) ≡ 256 * above + 128) ((marks_of (suc n) (b + 256 * y) ≡ 256 * above) × MarksFirst (λ x. eqb x 0) bytes above)) [
      | true ↦ λ yes. let first = at_zero n y within in (first.0, ap (λ c. marks_of (suc n) (c + 256 * y)) (eqb-true b 0 yes) ∙ first.1)
      | false ↦ λ no. let some : 0 < b = ⊎_elim (λ none. absurd (false≢true (sym no ∙ eq-eqb b 0 none))) (λ more. more) (eq-zero-or-pos b) in
          (marks_of n y, (above_byte n b y some (All-head (λ x. x < 256) b bytes small) within, zeros_first bytes rest))
    ] refl

-- ---- bytes that are a given byte

pub number-xor : (c : ℕ) → c < 256 → (bytes : List ℕ) → All (λ b. b < 256) bytes → bit_xor (number bytes) (c * ones (length bytes)) ≡ number (map (λ b. bit_xor b c) bytes)
number-xor c byte [] small = ap (bit_xor 0) (omega arith) ∙ xor_self 0
number-xor c byte (b ∷ bytes) small =
    let n = length bytes in
    ap (λ z. bit_xor z (c * ones (suc n))) (omega arith) ∙ ap (bit_xor (number bytes * 2 ^ 8 + b)) (omega arith)
    ∙ xor_block 8 (number bytes) (c * ones n) b c (All-head (λ x. x < 256) b bytes small) byte
    ∙ ap (λ z. z * 2 ^ 8 + bit_xor b c) (number-xor c byte bytes (All-tail (λ x. x < 256) b bytes small)) ∙ omega arith

same_from_xor : (b c : ℕ) → bit_xor b c ≡ 0 → b ≡ c
same_from_xor b c none =
    sym (xor_zero_r b) ∙ ap (bit_xor b) (sym (xor_self c)) ∙ sym (xor_assoc b c c) ∙ ap (λ z. bit_xor z c) none ∙ xor_zero_l c

xor_tells : (b c : ℕ) → eqb (bit_xor b c) 0 ≡ eqb b c
xor_tells b c =
    both_ways (eqb (bit_xor b c) 0) (eqb b c)
    (λ zero. eq-eqb b c (same_from_xor b c (eqb-true (bit_xor b c) 0 zero)))
    (λ same. eq-eqb (bit_xor b c) 0 (ap (λ z. bit_xor z c) (eqb-true b c same) ∙ xor_self c))

match_weaker : (t : Bool) (A : Type 0) {B C : Type 0} → (B → C) → MatchBool t A B → MatchBool t A C
match_weaker true A f it = it
match_weaker false A f it = f it

marks-map : (p : ℕ → Bool) (f : ℕ → ℕ) (bytes : List ℕ) (m : ℕ) → MarksFirst p (map f bytes) m → MarksFirst (λ b. p (f b)) bytes m
marks-map p f [] m first = first
marks-map p f (b ∷ bytes) m first =
    (first.0, match_weaker (p (f b)) _ (λ rest. (rest.0, marks-map p f bytes first.0 rest.1)) first.1)

pub xor_small : (c : ℕ) → c < 256 → (bytes : List ℕ) → All (λ b. b < 256) bytes → All (λ b. b < 256) (map (λ b. bit_xor b c) bytes)
xor_small c byte [] small = small
xor_small c byte (b ∷ bytes) small =
    All-cons (λ x. x < 256) (bit_xor b c) (map (λ x. bit_xor x c) bytes) (xor_lt 8 b c (All-head (λ x. x < 256) b bytes small) byte) (xor_small c byte bytes (All-tail (λ x. x < 256) b bytes small))

-- the marks of a byte in a word
pub byte_first : (c : ℕ) (bytes : List ℕ) (m : ℕ) → MarksFirst (λ b. eqb b 0) (map (λ b. bit_xor b c) bytes) m → MarksFirst (λ b. eqb b c) bytes m
byte_first c bytes m first =
    let same : (λ (b : ℕ). eqb (bit_xor b c) 0) ≡ (λ (b : ℕ). eqb b c) = λ i b. xor_tells b c i in
    subst (λ p. MarksFirst p bytes m) same (marks-map (λ b. eqb b 0) (λ b. bit_xor b c) bytes m first)

-- ---- both

pub marks_or : (p q : ℕ → Bool) (bytes : List ℕ) (m l : ℕ) → MarksFirst p bytes m → MarksFirst q bytes l → MarksFirst (λ b. p b || q b) bytes (bit_or m l)
marks_or p q [] m l none none' = ap (λ z. bit_or z l) none ∙ ap (bit_or 0) none'
marks_or p q (b ∷ bytes) m l first other =
    let u = first.0 in
    let v = other.0 in
    let joined : (c d : ℕ) → c < 256 → d < 256 → m ≡ 256 * u + c → l ≡ 256 * v + d → bit_or m l ≡ 256 * bit_or u v + bit_or c d = λ c d c_byte d_byte m_is l_is.
    ap (λ z. bit_or z l) (m_is ∙ omega arith) ∙ ap (bit_or (u * 2 ^ 8 + c)) (l_is ∙ omega arith) ∙ or_block 8 u v c d c_byte d_byte ∙ omega arith in
    let Q : Bool → Type 0 = λ t. MatchBool t (l ≡ 256 * v + 128) ((l ≡ 256 * v) × MarksFirst q bytes v) in
    let G : Bool → Type 0 = λ t. MatchBool t (bit_or m l ≡ 256 * bit_or u v + 128) ((bit_or m l ≡ 256 * bit_or u v) × MarksFirst (λ x. p x || q x) bytes (bit_or u v)) in (
      bit_or u v,
      elim (p b) as (λ s. MatchBool s (m ≡ 256 * u + 128) ((m ≡ 256 * u) × MarksFirst p bytes u) → G (s || q b)) [
        | true ↦ λ m_is. elim (q b) as (λ t. Q t → G true) [
          | true ↦ λ l_is. joined 128 128 (omega arith) (omega arith) m_is l_is
          | false ↦ λ l_is. joined 128 0 (omega arith) (omega arith) m_is (l_is.0 ∙ omega arith)
        ] other.1
        | false ↦ λ m_is. elim (q b) as (λ t. Q t → G t) [
          | true ↦ λ l_is. joined 0 128 (omega arith) (omega arith) (m_is.0 ∙ omega arith) l_is
          | false ↦ λ l_is. (joined 0 0 (omega arith) (omega arith) (m_is.0 ∙ omega arith) (l_is.0 ∙ omega arith) ∙ add-zero _, marks_or p q bytes u v m_is.1 l_is.1)
        ] other.1
      ] first.1,
    )

-- ---- the lowest mark

trailing_even : (k z : ℕ) → count_trailing_zeros (suc k) (2 * z) ≡ suc (count_trailing_zeros k z)
unfolding count_trailing_zeros
trailing_even k z =
    let even : (2 * z) % 2 ≡ 0 = omega arith in
    let half : (2 * z) / 2 ≡ z = omega arith in
    ap (λ d. under d (count_trailing_zeros k ((2 * z) / 2))) even ∙ ap (λ y. suc (count_trailing_zeros k y)) half

trailing_odd : (k z : ℕ) → count_trailing_zeros (suc k) (2 * z + 1) ≡ 0
unfolding count_trailing_zeros
trailing_odd k z =
    let odd : (2 * z + 1) % 2 ≡ 1 = omega arith in
    ap (λ d. under d (count_trailing_zeros k ((2 * z + 1) / 2))) odd

step : (k n z : ℕ) → n ≡ 2 * z → count_trailing_zeros (suc k) n ≡ suc (count_trailing_zeros k z)
step k n z is = ap (count_trailing_zeros (suc k)) is ∙ trailing_even k z

-- eight more digits
abbrev eight : ℕ → ℕ
eight k = suc (suc (suc (suc (suc (suc (suc (suc k)))))))

trailing_none : (k z : ℕ) → count_trailing_zeros (eight k) (256 * z) ≡ eight (count_trailing_zeros k z)
trailing_none k z =
    step _ (256 * z) (128 * z) (omega arith) ∙ ap suc (step _ (128 * z) (64 * z) (omega arith) ∙ ap suc (step _ (64 * z) (32 * z) (omega arith) ∙ ap suc (step _ (32 * z) (16 * z) (omega arith) ∙ ap suc (step _ (16 * z) (8 * z) (omega arith) ∙ ap suc (step _ (8 * z) (4 * z) (omega arith) ∙ ap suc (step _ (4 * z) (2 * z) (omega arith) ∙ ap suc (step k (2 * z) z (omega arith))))))))

trailing_mark : (k z : ℕ) → count_trailing_zeros (eight k) (256 * z + 128) ≡ 7
trailing_mark k z =
    step _ (256 * z + 128) (128 * z + 64) (omega arith) ∙ ap suc (step _ (128 * z + 64) (64 * z + 32) (omega arith) ∙ ap suc (step _ (64 * z + 32) (32 * z + 16) (omega arith) ∙ ap suc (step _ (32 * z + 16) (16 * z + 8) (omega arith) ∙ ap suc (step _ (16 * z + 8) (8 * z + 4) (omega arith) ∙ ap suc (step _ (8 * z + 4) (4 * z + 2) (omega arith) ∙ ap suc (step _ (4 * z + 2) (2 * z + 1) (omega arith) ∙ ap suc (trailing_odd k z)))))))

abbrev pub digits : List ℕ → ℕ
digits [] = 0
digits (b ∷ bytes) = eight (digits bytes)

-- the lowest mark shows where the first byte is that passes
pub record Shows (m len place low : ℕ) : Type 0 where
  pub none : m ≡ 0 → place ≡ len
  pub first : 0 < m → (place < len) × (low / 8 ≡ place)

pub shows_first : (p : ℕ → Bool) (bytes : List ℕ) (m : ℕ) → MarksFirst p bytes m → Shows m (length bytes) (position_or_len p bytes) (count_trailing_zeros (digits bytes) m)
shows_first p [] m is = record { none = λ _. refl; first = λ some. absurd (omega arith) }
shows_first p (b ∷ bytes) m marked =
    let u = marked.0 in
    let k = digits bytes in
    elim (p b) as (λ t. MatchBool t (m ≡ 256 * u + 128) ((m ≡ 256 * u) × MarksFirst p bytes u) → Shows m (length (b ∷ bytes)) (cond (not t) (1 + position_or_len p bytes) 0) (count_trailing_zeros (eight k) m)) [
      | true ↦ λ is. record {
        none = λ zero. absurd (omega arith);
        first = λ some. (omega arith, ap (λ z. count_trailing_zeros (eight k) z / 8) is ∙ ap (λ z. z / 8) (trailing_mark k u));
      }
      | false ↦ λ is.
          let rest = shows_first p bytes u is.1 in
          record {
            none = λ zero. let all = rest.none (omega arith) in omega arith;
            first = λ some. let found = rest.first (omega arith) in (omega (arith, found.0), ap (λ z. count_trailing_zeros (eight k) z / 8) is.0 ∙ ap (λ z. z / 8) (trailing_none k u) ∙ omega (arith, found.1));
          }
    ] marked.1

pub length_digits : (bytes : List ℕ) → digits bytes ≡ 8 * length bytes
length_digits [] = refl
length_digits (b ∷ bytes) = let rest = length_digits bytes in omega (arith, rest)

-- ---- where a text has its first

-- after what has none
pub place_past : (p : ℕ → Bool) (xs ys : List ℕ) → position_or_len p xs ≡ length xs → position_or_len p (xs ++ ys) ≡ length xs + position_or_len p ys
place_past p [] ys plain = omega arith
place_past p (x ∷ xs) ys plain =
    elim (p x) as (λ t. cond (not t) (1 + position_or_len p xs) 0 ≡ suc (length xs) → cond (not t) (1 + position_or_len p (xs ++ ys)) 0 ≡ suc (length xs) + position_or_len p ys) [
      | true ↦ λ none. absurd (omega (arith, none))
      | false ↦ λ more. let rest = place_past p xs ys (omega (arith, more)) in omega (arith, rest)
    ] plain

-- before what it is in
pub place_before : (p : ℕ → Bool) (xs ys : List ℕ) → position_or_len p xs < length xs → position_or_len p (xs ++ ys) ≡ position_or_len p xs
place_before p [] ys within = absurd (omega arith)
place_before p (x ∷ xs) ys within =
    elim (p x) as (λ t. cond (not t) (1 + position_or_len p xs) 0 < suc (length xs) → cond (not t) (1 + position_or_len p (xs ++ ys)) 0 ≡ cond (not t) (1 + position_or_len p xs) 0) [
      | true ↦ λ _. refl
      | false ↦ λ more. let rest = place_before p xs ys (omega (arith, more)) in omega (arith, rest)
    ] within

pub plain_append : (p : ℕ → Bool) (xs ys : List ℕ) → position_or_len p xs ≡ length xs → position_or_len p ys ≡ length ys → position_or_len p (xs ++ ys) ≡ length (xs ++ ys)
plain_append p xs ys plain also = let all = place_past p xs ys plain in omega (arith, all, also, length-append xs ys)

pub position_some : (p : ℕ → Bool) (xs : List ℕ) (i : ℕ) → position_or_len p xs < length xs → i ≡ position_or_len p xs → Some i ≡ position p xs
position_some p xs i within is = ap (λ k. Some k) is ∙ sym (ap (λ t. cond t (Some (position_or_len p xs)) None) (lt-ltb _ _ within))

not_below_itself : (n : ℕ) → ltb n n ≡ false
not_below_itself n = elim (ltb n n) as (λ t. ltb n n ≡ t → t ≡ false) [ true ↦ λ yes. absurd (omega (arith, ltb-true n n yes)) | false ↦ λ _. refl ] refl

pub position_none : (p : ℕ → Bool) (xs : List ℕ) → position_or_len p xs ≡ length xs → None ≡ position p xs
position_none p xs all = sym (ap (λ n. cond (ltb n (length xs)) (Some (position_or_len p xs)) None) all ∙ ap (λ t. cond t (Some (position_or_len p xs)) None) (not_below_itself (length xs)))
