-- The laws of an index's text.
use Rattle.std.proofs.Common.{◌≡◌, ℕ, ◌<◌, ◌^◌, true, not, ◌&&◌, eqb, ltb, List, [], ◌∷◌, length, get_or, Some, None, ⊎_elim, sym, refl, ap, ◌∙◌, subst, arith}
use Rattle.std.specs.Prelude.{decimal}
use Rattle.std.specs.Fmt.{digits}
use Rattle.std.specs.Str.{all_ascii_digits}
use Rattle.std.specs.Str.Parse.{digits_value}
use Rattle.std.proofs.lemmas.Bool.{cond-true, cases_eq, ne_eqb, eq-eqb, ltb-true, lt-ltb, and_from, and_parts, not_from_false, not-true, both_ways, false≢true, cond_both}
use Rattle.std.proofs.lemmas.Str.Parse.{IsNumeralModel, numerals_by_value, tells_all_ascii_digits}
use Rattle.std.proofs.lemmas.Fmt.{decimal_nonempty, first_decimal, digits_decimal, digits_value-decimal, decimal-digits_value}
use Rattle.ref_parts.specs.Pointer.{is_index_text, parse_index}

pub own : IsNumeralModel (λ ds. all_ascii_digits ds ≡ true) (digits_value 10)
own = numerals_by_value _ tells_all_ascii_digits

-- what makes a text an index's
pub is_index_text_from : (s : List ℕ) → all_ascii_digits s ≡ true → 0 < length s → (get_or s 0 0 ≡ 48 → length s ≡ 1) → is_index_text s ≡ true
is_index_text_from [] all some lone = absurd (omega arith)
is_index_text_from (d ∷ []) all some lone = all
is_index_text_from (d ∷ e ∷ ds) all some lone =
    and_from _ _ (not_from_false _ (ne_eqb d 48 (λ zero. absurd (omega (arith, lone zero))))) all

-- what an index's text is made of
pub is_index_text_parts : (s : List ℕ) → is_index_text s ≡ true → (all_ascii_digits s ≡ true) × (0 < length s) × (get_or s 0 0 ≡ 48 → length s ≡ 1)
is_index_text_parts [] h = absurd (false≢true h)
is_index_text_parts (d ∷ []) h = (h, omega arith, λ _. refl)
is_index_text_parts (d ∷ e ∷ ds) h =
    let parts = and_parts (not (eqb d 48)) (all_ascii_digits (d ∷ e ∷ ds)) h in
    (parts.1, omega arith, λ zero. absurd (both_ways (eqb d 48) (not-true _ parts.0) (eq-eqb d 48 zero)))

pub is_index_text-decimal : (n : ℕ) → n < 2 ^ 64 → is_index_text (decimal n) ≡ true
unfolding digits
is_index_text-decimal n fits =
    ⊎_elim
    (λ (zero : n ≡ 0). subst (λ m. is_index_text (decimal m) ≡ true) (sym zero) refl)
    (λ some. is_index_text_from (decimal n) (digits_decimal own n fits) (decimal_nonempty n fits) (λ first. absurd (omega (arith, first_decimal n (omega (arith, some)) fits))))
    (cases_eq n 0)

-- the decimal text of an index is read as that index
pub parse_index-decimal : (n : ℕ) → n < 2 ^ 64 → parse_index (decimal n) ≡ Some n
parse_index-decimal n fits =
    let value = digits_value-decimal own n fits in
    cond-true _ _ _ (and_from (is_index_text (decimal n)) (ltb (digits_value 10 (decimal n)) (2 ^ 64)) (is_index_text-decimal n fits) (lt-ltb _ (2 ^ 64) (omega (arith, value))))
    ∙ ap (λ m. Some m) value

-- a text is read as an index only where it is that index's decimal text
pub parse_index_some : (s : List ℕ) (n : ℕ) → parse_index s ≡ Some n → (s ≡ decimal n) × (n < 2 ^ 64)
parse_index_some s n =
    let test = is_index_text s && ltb (digits_value 10 s) (2 ^ 64) in
    cond_both test (Some (digits_value 10 s)) None (λ o. o ≡ Some n → (s ≡ decimal n) × (n < 2 ^ 64))
    (λ yes read.
    let tests = and_parts (is_index_text s) (ltb (digits_value 10 s) (2 ^ 64)) yes in
    let parts = is_index_text_parts s tests.0 in
    let fits = ltb-true _ _ tests.1 in
    let value : digits_value 10 s ≡ n = cc in
    (sym (decimal-digits_value own s parts.0 parts.1 parts.2 fits) ∙ ap decimal value, omega (arith, value, fits)))
    (λ no read. absurd (cc))
