-- Bytes that are cut into lines.
use Rattle.std.proofs.Common.{◌≡◌, ◌≢◌, ◌<◌, ◌≤◌, ◌+◌, ◌-◌, ℕ, zero, suc, Bool, true, false, List, [], ◌∷◌, ◌++◌, inl, inr, Some, None, length, take, drop, nat_eq, slice_index, refl, sym, ap, ◌∙◌, subst, append_assoc, append-nil, add-one, length-append, arith}
use Rattle.std.proofs.lemmas.Bool.{eq-eqb, eqb-true, ne_eqb, false≢true}
use Rattle.std.proofs.lemmas.List.{drop-take, drop-drop}
use Rattle.std.proofs.Math.Seq.{take-length}
use Rattle.memchr.specs.Find.{IsFirstByte, is_byte}
use Rattle.ref_streams.specs.Lines.{lines_after, lines, whole_lines_after, whole_lines}
use Rattle.ref_streams.specs.inner.Held.{IsFree, Cuts}

pub free_append : (xs ys : List ℕ) → IsFree xs → IsFree ys → IsFree (xs ++ ys)
free_append [] ys p q = q
free_append (x ∷ xs) ys p q = (p.0, free_append xs ys p.1 q)

-- the first n bytes, none of which is a line feed
pub free_front : (hay : List ℕ) (n : ℕ) → ((k : ℕ) → k < n → ¬ (nat_eq (slice_index hay k) 10 ≡ true)) → n ≤ length hay → IsFree (take n hay)
free_front hay zero none h = tt
free_front [] (suc n) none h = tt
free_front (x ∷ hay) (suc n) none h =
    (λ same. none 0 (omega arith) (eq-eqb x 10 same), free_front hay n (λ k less. none (suc k) (omega (arith, less))) (omega (arith, h)))

-- bytes around one of them
pub split_at : (hay : List ℕ) (n : ℕ) → n < length hay → slice_index hay n ≡ 10 → hay ≡ take n hay ++ 10 ∷ drop (suc n) hay
split_at [] n h is = absurd (omega (arith, h))
split_at (x ∷ hay) zero h is = ap (λ y. y ∷ hay) is
split_at (x ∷ hay) (suc n) h is = ap (λ ys. x ∷ ys) (split_at hay n (omega (arith, h)) is)

-- what is left of a slice after its first bytes
pub left_after : (bytes : List ℕ) (start end n : ℕ) → start + n ≤ end → drop n (take (end - start) (drop start bytes)) ≡ take (end - (start + n)) (drop (start + n) bytes)
left_after bytes start end n h =
    let m = end - (start + n) in
    let long : end - start ≡ n + m = omega (arith, h) in
    ap (λ k. drop n (take k (drop start bytes))) long ∙ drop-take n m (drop start bytes) ∙ ap (take m) (drop-drop n start bytes)

pub left_nil : (xs ys : List ℕ) → xs ++ ys ≡ [] → xs ≡ []
left_nil [] ys is = refl
left_nil (x ∷ xs) ys is = absurd (let e : x ∷ (xs ++ ys) ≡ [] = is in cc)

length-take_le : (n : ℕ) (xs : List ℕ) → length (take n xs) ≤ n
length-take_le zero xs = omega arith
length-take_le (suc n) [] = omega arith
length-take_le (suc n) (x ∷ xs) = omega (arith, length-take_le n xs)

-- a search for a line feed in what is left
pub found_feed : (bytes rest : List ℕ) (start end n : ℕ) → rest ≡ take (end - start) (drop start bytes) → start ≤ end → IsFirstByte (is_byte 10) rest (Some n)
    → IsFree (take n rest) × (take (end - start) (drop start bytes) ≡ take n rest ++ 10 ∷ take (end - (start + (n + 1))) (drop (start + (n + 1)) bytes))
found_feed bytes rest start end n is order (first, passes) =
    let within : n < length rest = first.high in
    let short : length rest ≤ end - start = subst (λ r. length r ≤ end - start) (sym is) (length-take_le (end - start) (drop start bytes)) in
    let free : IsFree (take n rest) = free_front rest n (λ k less. first.before k (omega arith) less) (omega (arith, within)) in
    let cut : rest ≡ take n rest ++ 10 ∷ drop (suc n) rest = split_at rest n within (eqb-true (slice_index rest n) 10 passes) in
    let left : drop (suc n) rest ≡ take (end - (start + (n + 1))) (drop (start + (n + 1)) bytes) =
    ap (drop (suc n)) is ∙ ap (λ k. drop k (take (end - start) (drop start bytes))) (sym (add-one n)) ∙ left_after bytes start end (n + 1) (omega (arith, within, short, order)) in
    (free, sym is ∙ cut ∙ ap (λ ys. take n rest ++ 10 ∷ ys) left)

pub found_none : (rest : List ℕ) → IsFirstByte (is_byte 10) rest None → IsFree rest
found_none rest nowhere =
    subst IsFree (take-length rest) (free_front rest (length rest) (λ k less. nowhere k (omega arith) less) (omega arith))

pub none_left : (end : ℕ) (bytes : List ℕ) → take (end - end) (drop end bytes) ≡ []
none_left end bytes = let none : end - end ≡ 0 = omega arith in ap (λ k. take k (drop end bytes)) none

-- ---- lines

not_feed : (x : ℕ) → x ≢ 10 → nat_eq x 10 ≡ false
not_feed x other = ne_eqb x 10 other

pub line_in_front : (line rest begun : List ℕ) → IsFree line → lines_after (line ++ 10 ∷ rest) begun ≡ (begun ++ line) ∷ lines_after rest []
line_in_front [] rest begun free = ap (λ l. l ∷ lines_after rest []) (sym (append-nil begun))
line_in_front (x ∷ line) rest begun free =
    rw (not_feed x free.0) (line_in_front line rest (begun ++ x ∷ []) free.1 ∙ ap (λ l. l ∷ lines_after rest []) (append_assoc begun (x ∷ []) line))

last_line : (line begun : List ℕ) → IsFree line → begun ++ line ≢ [] → lines_after line begun ≡ (begun ++ line) ∷ []
last_line [] [] free some = absurd (some refl)
last_line [] (b ∷ begun) free some = ap (λ l. l ∷ []) (sym (append-nil (b ∷ begun)))
last_line (x ∷ line) begun free some =
    rw (not_feed x free.0) (last_line line (begun ++ x ∷ []) free.1 (λ none. some (sym (append_assoc begun (x ∷ []) line) ∙ none)) ∙ ap (λ l. l ∷ []) (append_assoc begun (x ∷ []) line))

-- bytes that begin with a line, and with more after them where they didn't end
pub cut_lines : (before line after rest : List ℕ) (ended : Bool) → Cuts before line after ended → (ended ≡ true → rest ≡ [])
    → lines (before ++ rest) ≡ line ∷ lines (after ++ rest)
unfolding lines
cut_lines before line after rest ended (free, inl is) none =
    ap (λ bs. lines_after (bs ++ rest) []) is ∙ ap (λ bs. lines_after bs []) (append_assoc line (10 ∷ after) rest) ∙ line_in_front line (after ++ rest) [] free
cut_lines before line after rest ended (free, inr (is, some, empty, end)) none =
    ap (λ bs. lines_after (before ++ bs) []) (none end) ∙ ap (λ bs. lines_after bs []) (append-nil before ∙ is) ∙ last_line line [] free some
    ∙ ap (λ bs. line ∷ lines_after bs []) (sym (ap (λ bs. bs ++ rest) empty ∙ none end))

pub no_lines : lines [] ≡ []
unfolding lines
no_lines = refl

-- ---- lines that end at a line feed

pub not_ended : (ended : Bool) → (ended ≡ true → ⊥) → ended ≡ false
not_ended true not = absurd (not refl)
not_ended false not = refl

whole_in_front : (line rest begun : List ℕ) → IsFree line → whole_lines_after (line ++ 10 ∷ rest) begun ≡ (begun ++ line) ∷ whole_lines_after rest []
whole_in_front [] rest begun free = ap (λ l. l ∷ whole_lines_after rest []) (sym (append-nil begun))
whole_in_front (x ∷ line) rest begun free =
    rw (not_feed x free.0) (whole_in_front line rest (begun ++ x ∷ []) free.1 ∙ ap (λ l. l ∷ whole_lines_after rest []) (append_assoc begun (x ∷ []) line))

none_whole_after : (line begun : List ℕ) → IsFree line → whole_lines_after line begun ≡ []
none_whole_after [] begun free = refl
none_whole_after (x ∷ line) begun free = rw (not_feed x free.0) (none_whole_after line (begun ++ x ∷ []) free.1)

pub none_whole : (line : List ℕ) → IsFree line → whole_lines line ≡ []
unfolding whole_lines
none_whole line free = none_whole_after line [] free

pub cut_whole : (before line after rest : List ℕ) (ended : Bool) → Cuts before line after ended → ended ≡ false
    → whole_lines (before ++ rest) ≡ line ∷ whole_lines (after ++ rest)
unfolding whole_lines
cut_whole before line after rest ended (free, inl is) unended =
    ap (λ bs. whole_lines_after (bs ++ rest) []) is ∙ ap (λ bs. whole_lines_after bs []) (append_assoc line (10 ∷ after) rest) ∙ whole_in_front line (after ++ rest) [] free
cut_whole before line after rest ended (free, inr (is, some, empty, end)) unended = absurd (false≢true (sym unended ∙ end))

-- ---- how long lines are

some_bytes : (line : List ℕ) → line ≢ [] → 1 ≤ length line
some_bytes [] some = absurd (some refl)
some_bytes (x ∷ line) some = omega arith

-- what is after a line is shorter
pub cut_length : (before line after : List ℕ) (ended : Bool) → Cuts before line after ended → length after + 1 ≤ length before
cut_length before line after ended (free, inl is) = omega (arith, ap length is, length-append line (10 ∷ after))
cut_length before line after ended (free, inr (is, some, empty, end)) = omega (arith, ap length is, ap length empty, some_bytes line some)
