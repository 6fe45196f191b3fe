-- What the steps of `src/evaluate.rt` keep.
use Rattle.std.proofs.Common.{◌≡◌, ◌≢◌, ℕ, ◌<◌, ◌^◌, true, false, eqb, List, [], ◌∷◌, ◌++◌, length, get_or, All, Option, Some, None, Result, Ok, Err, option_and_then, sym, refl, ap, ◌∙◌, arith, is_some, true≢false}
use Rattle.std.specs.Result.{result_ok}
use Rattle.std.specs.Str.Parse.{ParsesUnsigned}
use Rattle.std.proofs.lemmas.Bool.{ne_eqb, cond-true, cond-false, lt-ltb, and_from, and_parts, ltb-true, false_from_ne_true}
use Rattle.std.proofs.lemmas.List.Elements.{All-nil, All-cons, All-head, All-tail, All-from_get_or}
use Rattle.std.proofs.lemmas.List.Splits.{slice_split_none, slice_split_at}
use Rattle.std.proofs.lemmas.Str.Parse.{parse_plain}
use Rattle.serde_json.specs.Data.{Data, null, boolean, number, string, array, object}
use Rattle.serde_json.specs.Find.{get, at, as_array}
use Rattle.ref_parts.specs.Pointer.{unescape, tokens, is_index_text, parse_index, step, value_along, evaluate}
use Rattle.ref_parts.proofs.IndexLaws.{own, is_index_text_from, is_index_text_parts}

-- ---- a step

pub step_in_array : (d : Data) (key : List ℕ) → is_some (as_array d) ≡ true → step d key ≡ option_and_then (λ i. at i d) (parse_index key)
step_in_array null key h = absurd (true≢false (sym h))
step_in_array (boolean b) key h = absurd (true≢false (sym h))
step_in_array (number n) key h = absurd (true≢false (sym h))
step_in_array (string s) key h = absurd (true≢false (sym h))
step_in_array (array ds) key h = refl
step_in_array (object ms) key h = absurd (true≢false (sym h))

pub step_elsewhere : (d : Data) (key : List ℕ) → is_some (as_array d) ≡ false → step d key ≡ get key d
step_elsewhere null key h = refl
step_elsewhere (boolean b) key h = refl
step_elsewhere (number n) key h = refl
step_elsewhere (string s) key h = refl
step_elsewhere (array ds) key h = absurd (true≢false h)
step_elsewhere (object ms) key h = refl

-- ---- along tokens

abbrev pub NoSlash : List ℕ → Type 0
NoSlash bs = (i : ℕ) → i < length bs → get_or bs i 0 ≢ 47

plain : (bs : List ℕ) → NoSlash bs → All (λ b. eqb b 47 ≡ false) bs
plain bs none = All-from_get_or (λ b. eqb b 47 ≡ false) bs 0 (λ i within. ne_eqb _ 47 (none i within))

pub value_along_turn : (d : Data) (rest token more : List ℕ) → rest ≡ token ++ (47 ∷ more) → NoSlash token → value_along d (tokens rest) ≡ option_and_then (λ e. value_along e (tokens more)) (step d (unescape token))
value_along_turn d rest token more cut none =
    ap (λ x. value_along d (tokens x)) cut ∙ ap (value_along d) (slice_split_at (λ b. eqb b 47) token 47 more (plain token none) refl)

and_then_some : (o : Option Data) → option_and_then (λ e. Some e) o ≡ o
and_then_some None = refl
and_then_some (Some e) = refl

pub value_along_last : (d : Data) (rest : List ℕ) → NoSlash rest → value_along d (tokens rest) ≡ step d (unescape rest)
value_along_last d rest none = ap (value_along d) (slice_split_none (λ b. eqb b 47) rest (plain rest none)) ∙ and_then_some (step d (unescape rest))

-- what begins with no `/` and isn't empty means nothing
pub evaluate_nothing : (d : Data) (text : List ℕ) → 0 < length text → ((rest : List ℕ) → text ≢ 47 ∷ rest) → evaluate d text ≡ None
evaluate_nothing d [] some other = absurd (omega arith)
evaluate_nothing d (b ∷ text) some other = cond-false _ _ _ (ne_eqb b 47 (λ e. other text (ap (λ x. x ∷ text) e)))

-- ---- the parts of a text without a byte are without it

pub All-front : (P : ℕ → Type 0) (front rest : List ℕ) → All P (front ++ rest) → All P front
All-front P [] rest all = All-nil P
All-front P (b ∷ front) rest all = All-cons P b front (All-head P b (front ++ rest) all) (All-front P front rest (All-tail P b (front ++ rest) all))

pub All-back : (P : ℕ → Type 0) (front rest : List ℕ) → All P (front ++ rest) → All P rest
All-back P [] rest all = all
All-back P (b ∷ front) rest all = All-back P front rest (All-tail P b (front ++ rest) all)

-- ---- an index's text

-- `parse` of a text without a sign and a leading 0 is what an index's text is read as
pub index_from_parse : {E : Type 0} (s : List ℕ) (r : Result ℕ E) → ParsesUnsigned 64 10 s r → get_or s 0 0 ≢ 43 → (get_or s 0 0 ≡ 48 → length s ≡ 1) → result_ok r ≡ parse_index s
index_from_parse {E = E} s (Ok n) h plus lone =
    let parsed = parse_plain own {E = E} 64 s (Ok n) h plus in
    let text = is_index_text_from s parsed.0.0 parsed.0.1 lone in
    ap (λ m. Some m) parsed.1 ∙ sym (cond-true _ _ _ (and_from (is_index_text s) _ text (lt-ltb _ (2 ^ 64) parsed.0.2)))
index_from_parse {E = E} s (Err e) h plus lone =
    let failed = parse_plain own {E = E} 64 s (Err e) h plus in
    sym (cond-false _ _ _ (false_from_ne_true _ (λ yes.
    let tests = and_parts (is_index_text s) _ yes in
    let parts = is_index_text_parts s tests.0 in
    failed (parts.0, parts.1, ltb-true _ (2 ^ 64) tests.1))))
