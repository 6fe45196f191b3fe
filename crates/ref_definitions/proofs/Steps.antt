-- The token of a part steps into a value as the part does.
use Rattle.std.proofs.Common.{◌≡◌, ℕ, ◌<◌, ◌^◌, true, ◌&&◌, List, [], ◌∷◌, length, get_or, Some, None, Ok, cond, ltb, refl, sym, ap, ◌∙◌, subst, arith}
use Rattle.std.specs.Prelude.{decimal}
use Rattle.std.specs.List.{list_all}
use Rattle.std.specs.Option.{ok_or}
use Rattle.std.specs.Char.{digit_value, is_ascii_digit}
use Rattle.std.specs.Str.Parse.{AllDigits, digits_value}
use Rattle.std.proofs.lemmas.Bool.{cond-true, and_from, lt-ltb}
use Rattle.std.proofs.lemmas.Bool.Decides.{nat_tests}
use Rattle.std.proofs.lemmas.Str.Parse.{IsNumeralModel, numerals_by_value, tells_digits, without_leading_plus_none}
use Rattle.std.proofs.lemmas.Fmt.{decimal_nonempty, digits_decimal, digits_value-decimal}
use Rattle.serde_json.specs.Data.{Data, null, boolean, number, string, array, object}
use Rattle.serde_json.specs.Find.{get_item, get_member}
use Rattle.ref_paths.specs.Path.{Part, Key, Index, child_at, HasFittingIndexes}
use Rattle.ref_parts.specs.Pointer.{part_text}
use Rattle.ref_parts.proofs.PointerLaws.{unescape-escape}
use Rattle.ref_draft.specs.declared.draft.Draft.{Draft}
use Rattle.ref_definitions.specs.Results.{◌>>=◌}
use Rattle.ref_definitions.specs.Fault.{PointerToNowhere, InvalidArrayIndex, as_invalid_uri}
use Rattle.ref_definitions.specs.Bases.{Along, along_part}
use Rattle.ref_definitions.specs.Pointers.{index_of, step_into, walked_along}

own : IsNumeralModel (AllDigits 10) (digits_value 10)
own = numerals_by_value _ tells_digits

digit_tests : (c : ℕ) → ltb (digit_value c) 10 ≡ is_ascii_digit c
digit_tests c = grind (arith, nat_tests)

all_digits : (ds : List ℕ) → AllDigits 10 ds → list_all is_ascii_digit ds ≡ true
all_digits [] each = refl
all_digits (c ∷ cs) each = and_from (is_ascii_digit c) (list_all is_ascii_digit cs) (sym (digit_tests c) ∙ lt-ltb (digit_value c) 10 each.0) (all_digits cs each.1)

no_plus : (ds : List ℕ) → AllDigits 10 ds → 0 < length ds → ¬ (get_or ds 0 0 ≡ 43)
no_plus [] each some plus = absurd (omega (arith, some))
no_plus (c ∷ cs) each some plus = plus_is_none (subst (λ x. digit_value x < 10) plus each.0)
  where
    plus_is_none : digit_value 43 < 10 → ⊥
    plus_is_none less = omega (arith, less)

index_of-decimal : (i : ℕ) → i < 2 ^ 64 → index_of (decimal i) ≡ Some i
unfolding index_of
index_of-decimal i fits =
    let each = digits_decimal own i fits in
    let some = decimal_nonempty i fits in
    let value = digits_value-decimal own i fits in
    let test = λ (ds : List ℕ). cond (ltb 0 (length ds) && list_all is_ascii_digit ds && ltb (digits_value 10 ds) (2 ^ 64)) (Some (digits_value 10 ds)) None in
    ap test (without_leading_plus_none (decimal i) (no_plus (decimal i) each some))
    ∙ cond-true _ _ _ (and_from _ _ (and_from _ _ (lt-ltb 0 (length (decimal i)) some) (all_digits (decimal i) each)) (lt-ltb _ (2 ^ 64) (omega (arith, value, fits))))
    ∙ ap (λ n. Some n) value

-- the token of a part steps to what is at the part
step_of_part : (pointer : List ℕ) (value v : Data) (part : Part) (rest : List Part) → HasFittingIndexes (part ∷ rest) → child_at value part ≡ Some v
    → step_into pointer value (part_text part) ≡ Ok (part, v)
step_of_part pointer null v (Key k) rest fits is = absurd (cc)
step_of_part pointer (boolean b) v (Key k) rest fits is = absurd (cc)
step_of_part pointer (number n) v (Key k) rest fits is = absurd (cc)
step_of_part pointer (string s) v (Key k) rest fits is = absurd (cc)
step_of_part pointer (array ds) v (Key k) rest fits is = absurd (cc)
step_of_part pointer (object ms) v (Key k) rest fits is =
    ap (λ key. ok_or (get_member key ms) (PointerToNowhere pointer) >>= λ d. Ok (Key key, d)) (unescape-escape k)
    ∙ ap (λ o. ok_or o (PointerToNowhere pointer) >>= λ d. Ok (Key k, d)) is
step_of_part pointer null v (Index i) rest fits is = absurd (cc)
step_of_part pointer (boolean b) v (Index i) rest fits is = absurd (cc)
step_of_part pointer (number n) v (Index i) rest fits is = absurd (cc)
step_of_part pointer (string s) v (Index i) rest fits is = absurd (cc)
step_of_part pointer (array ds) v (Index i) rest fits is =
    ap (λ o. ok_or o (InvalidArrayIndex pointer (decimal i)) >>= λ j. ok_or (get_item j ds) (PointerToNowhere pointer) >>= λ d. Ok (Index j, d)) (index_of-decimal i fits.0)
    ∙ ap (λ o. ok_or o (PointerToNowhere pointer) >>= λ d. Ok (Index i, d)) is
step_of_part pointer (object ms) v (Index i) rest fits is = absurd (cc)

-- one part more, where the base there is known
pub walk_part : (draft : Draft) (pointer : List ℕ) (along next : Along) (value v : Data) (part : Part) (rest : List Part) (tokens : List (List ℕ)) → HasFittingIndexes (part ∷ rest) → child_at value part ≡ Some v
    → along_part draft along part v ≡ Ok next → walked_along draft pointer along value (part_text part ∷ tokens) ≡ walked_along draft pointer next v tokens
walk_part draft pointer along next value v part rest tokens fits at is =
    ap (λ r. r >>= λ s. as_invalid_uri (along_part draft along s.0 s.1) >>= λ n. walked_along draft pointer n s.1 tokens) (step_of_part pointer value v part rest fits at)
    ∙ ap (λ r. as_invalid_uri r >>= λ n. walked_along draft pointer n v tokens) is
