-- The law that a path's pointer text leads where the path does.
use Rattle.std.proofs.Common.{◌≡◌, ◌≢◌, ℕ, ◌<◌, ◌≤◌, ◌^◌, true, false, eqb, List, [], ◌∷◌, ◌++◌, map, All, Some, option_and_then, sym, refl, ap, ◌∙◌, append-nil, arith}
use Rattle.std.specs.Prelude.{decimal}
use Rattle.std.specs.Prelude.{⊤}
use Rattle.std.specs.Char.{is_ascii_digit}
use Rattle.std.specs.Str.{all_ascii_digits}
use Rattle.std.proofs.lemmas.Bool.{and_parts, ne_eqb, cond_both}
use Rattle.std.proofs.lemmas.Bool.Decides.{nat_tests}
use Rattle.std.proofs.lemmas.List.Elements.{All-nil, All-cons, All-append}
use Rattle.std.proofs.lemmas.List.Splits.{slice_split_none, slice_split_at}
use Rattle.std.proofs.lemmas.Option.{option_and_then_some}
use Rattle.std.proofs.lemmas.Fmt.{digits_decimal}
use Rattle.serde_json.specs.Data.{Data, null, boolean, number, string, array, object}
use Rattle.serde_json.specs.Find.{get_item}
use Rattle.ref_paths.specs.Path.{Part, Key, Index, child_at, value_at, HasFittingIndexes}
use Rattle.ref_parts.specs.Pointer.{escape, escaped_byte, unescape, tokens, part_text, pointer_text, step, value_along, evaluate}
use Rattle.ref_parts.proofs.PointerLaws.{unescape-escape, unescape_front}
use Rattle.ref_parts.proofs.IndexLaws.{own, parse_index-decimal}

-- ---- tokens hold no `/`

abbrev pub NoSlash : ℕ → Type 0
NoSlash b = eqb b 47 ≡ false

no_slash_escaped_byte : (b : ℕ) → All NoSlash (escaped_byte b)
no_slash_escaped_byte b =
    cond_both (eqb b 126) (126 ∷ 48 ∷ []) _ (All NoSlash)
    (λ _. All-cons NoSlash 126 (48 ∷ []) refl (All-cons NoSlash 48 [] refl (All-nil NoSlash)))
    (λ _. cond_both (eqb b 47) (126 ∷ 49 ∷ []) (b ∷ []) (All NoSlash)
    (λ _. All-cons NoSlash 126 (49 ∷ []) refl (All-cons NoSlash 49 [] refl (All-nil NoSlash)))
    (λ other. All-cons NoSlash b [] other (All-nil NoSlash)))

pub no_slash_escape : (key : List ℕ) → All NoSlash (escape key)
no_slash_escape [] = All-nil NoSlash
no_slash_escape (b ∷ key) = All-append NoSlash (escaped_byte b) (escape key) (no_slash_escaped_byte b) (no_slash_escape key)

-- ---- a decimal text holds no `/` and no `~`

digit_range : (b : ℕ) → is_ascii_digit b ≡ true → (48 ≤ b) × (b ≤ 57)
digit_range b h = grind (arith, nat_tests)

all_from_digits : (P : ℕ → Type 0) → ((b : ℕ) → 48 ≤ b → b ≤ 57 → P b) → (s : List ℕ) → all_ascii_digits s ≡ true → All P s
all_from_digits P holds [] all = All-nil P
all_from_digits P holds (b ∷ s) all =
    let parts = and_parts (is_ascii_digit b) (all_ascii_digits s) all in
    let range = digit_range b parts.0 in
    All-cons P b s (holds b range.0 range.1) (all_from_digits P holds s parts.1)

pub no_slash_decimal : (n : ℕ) → n < 2 ^ 64 → All NoSlash (decimal n)
no_slash_decimal n fits = all_from_digits NoSlash (λ b low high. ne_eqb b 47 (λ e. absurd (omega (arith, e)))) (decimal n) (digits_decimal own n fits)

unescape-decimal : (n : ℕ) → n < 2 ^ 64 → unescape (decimal n) ≡ decimal n
unescape-decimal n fits =
    let plain = all_from_digits (λ b. b ≢ 126) (λ b low high e. absurd (omega (arith, e))) (decimal n) (digits_decimal own n fits) in
    ap unescape (sym (append-nil (decimal n))) ∙ unescape_front (decimal n) [] plain ∙ append-nil (decimal n)

-- ---- the tokens of a path's text

abbrev pub FitsPart : Part → Type 0
FitsPart (Key k) = ⊤
FitsPart (Index i) = i < 2 ^ 64

no_slash_part : (part : Part) → FitsPart part → All NoSlash (part_text part)
no_slash_part (Key k) fits = no_slash_escape k
no_slash_part (Index i) fits = no_slash_decimal i fits

fits_first : (part : Part) (path : List Part) → HasFittingIndexes (part ∷ path) → FitsPart part × HasFittingIndexes path
fits_first (Key k) path fits = (tt, fits)
fits_first (Index i) path fits = fits

-- each part's text is a token
pub tokens_of_path : (part : Part) (path : List Part) → HasFittingIndexes (part ∷ path) → tokens (part_text part ++ pointer_text path) ≡ map part_text (part ∷ path)
tokens_of_path part [] fits =
    ap tokens (append-nil (part_text part)) ∙ slice_split_none (λ b. eqb b 47) (part_text part) (no_slash_part part (fits_first part [] fits).0)
tokens_of_path part (next ∷ path) fits =
    let both = fits_first part (next ∷ path) fits in
    slice_split_at (λ b. eqb b 47) (part_text part) 47 (part_text next ++ pointer_text path) (no_slash_part part both.0) refl
    ∙ ap (λ x. part_text part ∷ x) (tokens_of_path next path both.1)

-- ---- steps

step_of_key : (d : Data) (k : List ℕ) (e : Data) → child_at d (Key k) ≡ Some e → step d k ≡ Some e
step_of_key null k e h = h
step_of_key (boolean b) k e h = h
step_of_key (number n) k e h = h
step_of_key (string s) k e h = h
step_of_key (array ds) k e h = absurd (cc)
step_of_key (object ms) k e h = h

step_of_index : (d : Data) (i : ℕ) (e : Data) → i < 2 ^ 64 → child_at d (Index i) ≡ Some e → step d (decimal i) ≡ Some e
step_of_index null i e fits h = h
step_of_index (boolean b) i e fits h = h
step_of_index (number n) i e fits h = h
step_of_index (string s) i e fits h = h
step_of_index (array ds) i e fits h = ap (option_and_then (λ j. get_item j ds)) (parse_index-decimal i fits) ∙ h
step_of_index (object ms) i e fits h = absurd (cc)

step_of_part : (d : Data) (part : Part) (e : Data) → FitsPart part → child_at d part ≡ Some e → step d (unescape (part_text part)) ≡ Some e
step_of_part d (Key k) e fits h = ap (step d) (unescape-escape k) ∙ step_of_key d k e h
step_of_part d (Index i) e fits h = ap (step d) (unescape-decimal i fits) ∙ step_of_index d i e fits h

value_along_path : (d : Data) (path : List Part) (e : Data) → HasFittingIndexes path → value_at d path ≡ Some e → value_along d (map part_text path) ≡ Some e
value_along_path d [] e fits h = h
value_along_path d (part ∷ path) e fits h =
    let both = fits_first part path fits in
    option_and_then_some (λ x. value_at x path) (child_at d part) e h (λ x here more.
    ap (option_and_then (λ y. value_along y (map part_text path))) (step_of_part d part x both.0 here) ∙ value_along_path x path e both.1 more)

-- the pointer text of a path that leads to a value means that value
pub evaluate-pointer_text : (d : Data) (path : List Part) (e : Data) → HasFittingIndexes path → value_at d path ≡ Some e → evaluate d (pointer_text path) ≡ Some e
evaluate-pointer_text d [] e fits h = h
evaluate-pointer_text d (part ∷ path) e fits h =
    ap (value_along d) (tokens_of_path part path fits) ∙ value_along_path d (part ∷ path) e fits h
