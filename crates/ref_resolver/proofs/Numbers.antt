-- Decimal numbers of 64 bits, read as `usize` is.
use Rattle.std.proofs.Common.{◌≡◌, ℕ, ◌<◌, ◌^◌, Bool, true, false, ◌&&◌, List, [], ◌∷◌, length, Some, None, Result, Ok, Err, cond, ltb, Decides, refl, sym, ap, ◌∙◌, subst, arith}
use Rattle.std.specs.List.{list_all}
use Rattle.std.specs.Char.{digit_value, is_ascii_digit}
use Rattle.std.specs.Result.{OkIff, result_ok}
use Rattle.std.specs.Str.Parse.{IsNumeral, AllDigits, ParsesUnsigned, digits_value, without_leading_plus}
use Rattle.std.proofs.lemmas.Bool.Decides.{Decides-ltb, Decides-and, nat_tests}
use Rattle.ref_definitions.specs.Pointers.{index_of}

digit_tests : (c : ℕ) → ltb (digit_value c) 10 ≡ is_ascii_digit c
digit_tests c = grind (arith, nat_tests)

all_digits : (ds : List ℕ) → Decides (list_all is_ascii_digit ds) (AllDigits 10 ds)
all_digits [] = (λ _. tt, λ _. refl)
all_digits (c ∷ cs) = Decides-and (is_ascii_digit c) (list_all is_ascii_digit cs) (subst (λ b. Decides b (digit_value c < 10)) (digit_tests c) (Decides-ltb (digit_value c) 10)) (all_digits cs)

fits : (ds : List ℕ) → Decides (ltb 0 (length ds) && list_all is_ascii_digit ds && ltb (digits_value 10 ds) (2 ^ 64)) (IsNumeral 10 ds × (digits_value 10 ds < 2 ^ 64))
fits ds =
    Decides-and (ltb 0 (length ds) && list_all is_ascii_digit ds) (ltb (digits_value 10 ds) (2 ^ 64)) (Decides-and (ltb 0 (length ds)) (list_all is_ascii_digit ds) (Decides-ltb 0 (length ds)) (all_digits ds))
    (Decides-ltb (digits_value 10 ds) (2 ^ 64))

chosen : {P : Type 0} (b : Bool) (v : ℕ) {E : Type 0} (r : Result ℕ E) → Decides b P → OkIff r P v → result_ok r ≡ cond b (Some v) None
chosen b v (Ok x) d h = sym (ap (λ c. cond c (Some v) None) (d.1 h.0) ∙ ap Some (sym h.1))
chosen true v (Err e) d h = absurd (h (d.0 refl))
chosen false v (Err e) d h = refl

pub index_parsed : {E : Type 0} (bs : List ℕ) (r : Result ℕ E) → ParsesUnsigned 64 10 bs r → result_ok r ≡ index_of bs
unfolding index_of
index_parsed bs r h = chosen _ (digits_value 10 (without_leading_plus bs)) r (fits (without_leading_plus bs)) h
