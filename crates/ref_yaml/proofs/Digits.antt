-- Which number a text of digits is.
use Rattle.std.proofs.Common.{◌≡◌, ℕ, ◌<◌, ◌^◌, ◌==◌, true, false, List, [], ◌∷◌, ◌++◌, length, slice_index, Option, Some, None, IfSome, All, refl, ap, sym, ◌∙◌, append-nil, arith}
use Rattle.std.proofs.lemmas.Bool.{ne_eqb, le-leb, lt-ltb}
use Rattle.std.proofs.lemmas.Float.Parse.{scan_numeral-text_of}
use Rattle.std.proofs.lemmas.List.Elements.{All-nil, All-cons}
use Rattle.std.proofs.lemmas.Str.Parse.{digit_from_value}
use Rattle.std.specs.Char.{is_ascii_digit, digit_value}
use Rattle.std.specs.Str.Parse.{AllDigits, digits_value}
use Rattle.fast_float.specs.Text.{scan}
use Rattle.fast_float.specs.Text as numeral
use Rattle.serde_json.specs.Data.{Data, number, unsigned}
use Rattle.serde_json.specs.Read.{number_of, number_from}
use Rattle.ref_yaml.specs.Core.{Parts, parts_of, digits, after_digits, without_zeros, as_json, json_number, is_decimal, is_one_of, nothing_words, null_words, true_words, false_words, number_value, core_value}
use Rattle.ref_yaml.specs.Passing.{IsWithoutMark}
use Rattle.ref_yaml.specs.Scalars.{part}
use Rattle.ref_yaml.specs.Values.{IsText}
use Rattle.ref_yaml.specs.declared.event.Event.{Event}
use Rattle.ref_yaml.specs.declared.event.Kind.TheVariants.{Plain}
use Rattle.ref_yaml.proofs.Numbers.{decimal_is}
use Rattle.ref_yaml.proofs.Trees.{plain_is}

is_digit : (b : ℕ) → digit_value b < 10 → is_ascii_digit b ≡ true
is_digit b h = let r = digit_from_value b h in rw (le-leb 48 b r.0, le-leb b 57 r.1) refl

not_above : (b c : ℕ) → digit_value b < 10 → 57 < c → (b == c) ≡ false
not_above b c h above = let r = digit_from_value b h in ne_eqb b c (λ same. omega (arith, r.0, r.1))

not_below : (b c : ℕ) → digit_value b < 10 → c < 48 → (b == c) ≡ false
not_below b c h below = let r = digit_from_value b h in ne_eqb b c (λ same. omega (arith, r.0, r.1))

digits_all : (s : List ℕ) → AllDigits 10 s → digits s ≡ s
digits_all [] h = refl
digits_all (b ∷ t) h = rw (is_digit b h.0) (ap (λ l. b ∷ l) (digits_all t h.1))

after_all : (s : List ℕ) → AllDigits 10 s → after_digits s ≡ []
after_all [] h = refl
after_all (b ∷ t) h = rw (is_digit b h.0) (after_all t h.1)

-- they are all of a number, which JSON writes as it stands
abbrev whole_parts : List ℕ → Parts
whole_parts s = record { negative = false; whole = s; point = false; fraction = []; exponent = [] }

parts_all : (b : ℕ) (t : List ℕ) → AllDigits 10 (b ∷ t) → parts_of (b ∷ t) ≡ whole_parts (b ∷ t)
unfolding parts_of
parts_all b t h = rw (not_below b 45 h.0 (omega arith), not_below b 43 h.0 (omega arith), is_digit b h.0, digits_all t h.1, after_all t h.1) refl

decimal_all : (s : List ℕ) → 0 < length s → is_decimal (whole_parts s) ≡ true
decimal_all s some = rw (lt-ltb 0 (length s) some) refl

json_all : (s : List ℕ) → without_zeros s ≡ s → as_json (whole_parts s) ≡ s
json_all s h = append-nil (without_zeros s ++ []) ∙ append-nil (without_zeros s) ∙ h

-- `serde_json` reads it
abbrev whole_numeral : List ℕ → numeral.Parts
whole_numeral s = record { whole = s; point = false; fraction = []; exponent_negative = false; exponent = []; len = length s }

scan_all : (s : List ℕ) → AllDigits 10 s → scan s ≡ whole_numeral s
scan_all s h =
    ap scan (sym (append-nil s))
    ∙ scan_numeral-text_of (whole_numeral s)
    (record { whole_digits = h; fraction_digits = tt; exponent_digits = tt; no_point = λ is. refl; no_exponent = λ is. refl; len_is = ap length (sym (append-nil s)) })

from_digits : (s : List ℕ) (n : ℕ) → 0 < length s → digits_value 10 s ≡ n → n < 2 ^ 64 → number_from false (whole_numeral s) ≡ Some (unsigned n)
from_digits s n some is fits = rw (lt-ltb 0 (length s) some, append-nil s, is, lt-ltb n (2 ^ 64) fits) refl

number_all : (s : List ℕ) (n : ℕ) → AllDigits 10 s → (slice_index s 0 == 45) ≡ false → 0 < length s → digits_value 10 s ≡ n → n < 2 ^ 64 → number_of s ≡ Some (unsigned n)
unfolding number_of
number_all s n h positive some is fits = rw (positive, scan_all s h) (from_digits s n some is fits)

-- and it is none of the words
core_by : (s : List ℕ) (d : Data) → is_one_of nothing_words s ≡ false → is_one_of null_words s ≡ false → is_one_of true_words s ≡ false → is_one_of false_words s ≡ false
    → number_value s ≡ Some (Some d) → core_value s ≡ Some d
core_by s d h i j k is = rw (h, i, j, k, is) refl

number_by : (s : List ℕ) (p : Parts) (n : ℕ) → parts_of s ≡ p → is_decimal p ≡ true → as_json p ≡ s → number_of s ≡ Some (unsigned n) → number_value s ≡ Some (Some (number (unsigned n)))
number_by s p n same one written is = sym (decimal_is s (number (unsigned n)) (ap is_decimal same ∙ one) (ap json_number (ap as_json same ∙ written) ∙ rw is refl))

whole_is : (s : List ℕ) (n : ℕ) → AllDigits 10 s → digits_value 10 s ≡ n → n < 1000000000000000000 → without_zeros s ≡ s → core_value s ≡ Some (number (unsigned n))
whole_is [] n h is small whole = absurd (cc)
whole_is (b ∷ t) n h is small whole =
    let s = b ∷ t in
    let some : 0 < length s = omega arith in
    let read = number_all s n h (not_below b 45 h.0 (omega arith)) some is (omega arith) in
    core_by s (number (unsigned n)) (rw (not_above b 126 h.0 (omega arith)) refl) (rw (not_above b 110 h.0 (omega arith), not_above b 78 h.0 (omega arith)) refl)
    (rw (not_above b 116 h.0 (omega arith), not_above b 84 h.0 (omega arith)) refl) (rw (not_above b 102 h.0 (omega arith), not_above b 70 h.0 (omega arith)) refl)
    (number_by s (whole_parts s) n (parts_all b t h) (decimal_all s some) (json_all s whole) read)

pub whole_some : (s : List ℕ) (r : Option ℕ) → without_zeros s ≡ s → IfSome r (λ n. AllDigits 10 s) → IfSome r (λ n. digits_value 10 s ≡ n) → IfSome r (λ n. n < 1000000000000000000)
    → IfSome r (λ n. core_value s ≡ Some (number (unsigned n)))
whole_some s None whole h is small = tt
whole_some s (Some n) whole h is small = whole_is s n h is small whole

line_all : (s : List ℕ) → AllDigits 10 s → All (IsWithoutMark 10) s
line_all [] h = All-nil (IsWithoutMark 10)
line_all (b ∷ t) h =
    let r = digit_from_value b h.0 in
    All-cons (IsWithoutMark 10) b t ((λ same. omega (arith, r.0)), (λ same. omega (arith, r.0)), λ same. omega (arith, r.0)) (line_all t h.1)

pub line_some : (s : List ℕ) (r : Option ℕ) → IfSome r (λ n. AllDigits 10 s) → IfSome r (λ n. All (IsWithoutMark 10) s)
line_some s None h = tt
line_some s (Some n) h = line_all s h

pub whole_text : (text : List ℕ) (e : Event) (s : List ℕ) (r : Option ℕ) → e.kind ≡ Plain → s ≡ part text e.start e.end → IfSome r (λ n. core_value s ≡ Some (number (unsigned n)))
    → IfSome r (λ n. All (IsWithoutMark 10) s) → IfSome r (λ n. (t : List ℕ) × IsText text e t × (core_value t ≡ Some (number (unsigned n))))
whole_text text e s None k is value line = tt
whole_text text e s (Some n) k is value line = (s, plain_is text e s k is line, value)
