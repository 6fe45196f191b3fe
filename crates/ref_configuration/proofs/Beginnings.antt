-- The beginnings of a text, of which some are passed.
use Rattle.std.proofs.Common.{◌≡◌, ◌≢◌, ℕ, suc, ◌+◌, ◌<◌, ◌≤◌, ◌==◌, List, [], ◌∷◌, Bool, true, false, not, cond, Some, None, length, drop, take, get_or, filter, fold, unwrap_or, sym, ap, ◌∙◌, arith, inl, inr, drop_of_length-le, refl}
use Rattle.std.specs.List.{before_first, position_or_len}
use Rattle.std.proofs.lemmas.Bool.Decides.{eqb_tells}
use Rattle.std.proofs.lemmas.List.{drop_more}
use Rattle.toml.specs.Data.{Members}
use Rattle.ref_configuration.specs.Lines.{line_ends}
use Rattle.ref_configuration.specs.Places.{tells, lacks, passes, after_lacking}

abbrev next : ℕ → ℕ → ℕ
next begin end = end + 1

-- the offset after the last of some line ends before which the text lacks it, up to the first before which it passes, or the beginning
abbrev pub after_ends : (Members → Bool) → List ℕ → ℕ → List ℕ → ℕ
after_ends test text begin ends = fold next begin (filter (lacks test text) (before_first (passes test text) ends))

-- the same for those from an offset on
abbrev pub left_after : (Members → Bool) → List ℕ → ℕ → ℕ → ℕ
left_after test text begin from = after_ends test text begin (line_ends from (drop from text))

-- ---- the elements before the first that passes

one_more : (n : ℕ) → 1 + n ≡ suc n
one_more n = omega arith

passed_over : (p : ℕ → Bool) (x : ℕ) (xs : List ℕ) → p x ≡ false → before_first p (x ∷ xs) ≡ x ∷ before_first p xs
passed_over p x xs fails =
    ap (λ b. take (cond (not b) (1 + position_or_len p xs) 0) (x ∷ xs)) fails ∙ ap (λ n. take n (x ∷ xs)) (one_more (position_or_len p xs))

at_first : (p : ℕ → Bool) (x : ℕ) (xs : List ℕ) → p x ≡ true → before_first p (x ∷ xs) ≡ []
at_first p x xs holds = ap (λ b. take (cond (not b) (1 + position_or_len p xs) 0) (x ∷ xs)) holds

-- ---- a line end

after_open : (test : Members → Bool) (text : List ℕ) (begin end : ℕ) (ends : List ℕ) → tells test (take end text) ≡ None
    → after_ends test text begin (end ∷ ends) ≡ after_ends test text begin ends
after_open test text begin end ends is =
    let kept = filter (lacks test text) (before_first (passes test text) ends) in
    ap (λ es. fold next begin (filter (lacks test text) es)) (passed_over (passes test text) end ends (ap (λ r. unwrap_or r false) is))
    ∙ ap (λ r. fold next begin (cond (not (unwrap_or r true)) (end ∷ kept) kept)) is

after_lacks : (test : Members → Bool) (text : List ℕ) (begin end : ℕ) (ends : List ℕ) → tells test (take end text) ≡ Some false
    → after_ends test text begin (end ∷ ends) ≡ after_ends test text (end + 1) ends
after_lacks test text begin end ends is =
    let kept = filter (lacks test text) (before_first (passes test text) ends) in
    ap (λ es. fold next begin (filter (lacks test text) es)) (passed_over (passes test text) end ends (ap (λ r. unwrap_or r false) is))
    ∙ ap (λ r. fold next begin (cond (not (unwrap_or r true)) (end ∷ kept) kept)) is

after_has : (test : Members → Bool) (text : List ℕ) (begin end : ℕ) (ends : List ℕ) → tells test (take end text) ≡ Some true
    → after_ends test text begin (end ∷ ends) ≡ begin
after_has test text begin end ends is =
    ap (λ es. fold next begin (filter (lacks test text) es)) (at_first (passes test text) end ends (ap (λ r. unwrap_or r false) is))

-- ---- the line ends from an offset on

ten : (b : ℕ) → b ≡ 10 → (b == 10) ≡ true
ten b is = ap (λ c. c == 10) is

no_ten : (b : ℕ) → b ≢ 10 → (b == 10) ≡ false
no_ten b other = elim (eqb_tells b 10) [ inl same ↦ absurd (other same.1) | inr apart ↦ apart.0 ]

ends_here : (text : List ℕ) (from : ℕ) → from < length text → get_or text from 0 ≡ 10
    → line_ends from (drop from text) ≡ from ∷ line_ends (from + 1) (drop (from + 1) text)
ends_here text from within is =
    let more = line_ends (from + 1) (drop (from + 1) text) in
    ap (line_ends from) (drop_more text from 0 within) ∙ ap (λ b. cond b (from ∷ more) more) (ten (get_or text from 0) is)

ends_later : (text : List ℕ) (from : ℕ) → from < length text → get_or text from 0 ≢ 10
    → line_ends from (drop from text) ≡ line_ends (from + 1) (drop (from + 1) text)
ends_later text from within is =
    let more = line_ends (from + 1) (drop (from + 1) text) in
    ap (line_ends from) (drop_more text from 0 within) ∙ ap (λ b. cond b (from ∷ more) more) (no_ten (get_or text from 0) is)

pub left_later : (test : Members → Bool) (text : List ℕ) (begin from : ℕ) → from < length text → get_or text from 0 ≢ 10
    → left_after test text begin (from + 1) ≡ left_after test text begin from
left_later test text begin from within is = ap (after_ends test text begin) (sym (ends_later text from within is))

pub left_open : (test : Members → Bool) (text : List ℕ) (begin from : ℕ) → from < length text → get_or text from 0 ≡ 10 → tells test (take from text) ≡ None
    → left_after test text begin (from + 1) ≡ left_after test text begin from
left_open test text begin from within is none =
    sym (ap (after_ends test text begin) (ends_here text from within is) ∙ after_open test text begin from (line_ends (from + 1) (drop (from + 1) text)) none)

pub left_lacks : (test : Members → Bool) (text : List ℕ) (begin from : ℕ) → from < length text → get_or text from 0 ≡ 10 → tells test (take from text) ≡ Some false
    → left_after test text (from + 1) (from + 1) ≡ left_after test text begin from
left_lacks test text begin from within is lacks =
    sym (ap (after_ends test text begin) (ends_here text from within is) ∙ after_lacks test text begin from (line_ends (from + 1) (drop (from + 1) text)) lacks)

pub left_has : (test : Members → Bool) (text : List ℕ) (begin from : ℕ) → from < length text → get_or text from 0 ≡ 10 → tells test (take from text) ≡ Some true
    → begin ≡ left_after test text begin from
left_has test text begin from within is has =
    sym (ap (after_ends test text begin) (ends_here text from within is) ∙ after_has test text begin from (line_ends (from + 1) (drop (from + 1) text)) has)

pub left_none : (test : Members → Bool) (text : List ℕ) (begin from : ℕ) → length text ≤ from → begin ≡ left_after test text begin from
left_none test text begin from beyond = sym (ap (λ s. after_ends test text begin (line_ends from s)) (drop_of_length-le text beyond))

pub from_beginning : (test : Members → Bool) (text : List ℕ) → left_after test text 0 0 ≡ after_lacking test text
from_beginning test text = refl
