-- Writing a path segment by segment gives the path without its dot segments.
use Rattle.std.proofs.Common.{◌≡◌, ◌≢◌, ℕ, suc, ◌+◌, ◌-◌, ◌<◌, Bool, true, false, cond, not, ◌&&◌, List, [], ◌∷◌, ◌++◌, map, length, drop, get_or, reverse, eqb, refl, sym, ap, ◌∙◌, arith, append_assoc, append-nil, codes, inl, inr}
use Rattle.std.specs.List.{list_all, AllByRecursion, before_last, prefix_len}
use Rattle.std.proofs.lemmas.Bool.{cases_Bool, false≢true, ne_eqb}
use Rattle.std.proofs.lemmas.List.{map-append, reverse-append, take_at, length-append, get_or_at, get_or-append-add}
use Rattle.std.proofs.lemmas.Slice.Eq.{bytes_eq-Decides}
use Rattle.std.proofs.lemmas.List.Sums.{AllPass-from_list_all}
use Rattle.ref_uri.specs.DotSegments.{segments, after_slashes, joined_segments, is_dot, is_dot_dot, is_dot_segment, kept_after, first_after, remaining_segments, ends_in_dots, without_dots, remove_dot_segments}
use Rattle.ref_uri.specs.inner.Removal.{segment_of, next_written, next_progress, path_then, progress_then, path_after, progress_after, end_of, ended_path}
use Rattle.ref_uri.specs.Characters.{has_whole_triples}
use Rattle.ref_uri.specs.inner.Written.{written_text}
use Rattle.ref_uri.specs.declared.written.Form.{Form}
use Rattle.ref_uri.proofs.EncodedLemmas.{whole-append}
use Rattle.ref_uri.proofs.RemovalLemmas.{path_after-append, progress_after-append}
use Rattle.ref_uri.proofs.WrittenLemmas.{written_segments}
use Rattle.ref_uri.specs.declared.dots.Progress.{Progress}
use Rattle.ref_uri.specs.declared.dots.Progress.TheVariants.{Front, Within, Dots}
use Rattle.ref_uri.proofs.LastSlash.{is_slash, before_last_at, before_last_none}
use Rattle.ref_uri.proofs.SegmentLemmas.{segments_hold_no_slash, segments-append}

-- no slash is in the text
abbrev pub HasNoSlash : List ℕ → Type 0
HasNoSlash text = list_all (λ c. not (eqb c 47)) text ≡ true

pub no_slash_at : (text : List ℕ) → HasNoSlash text → (i : ℕ) → i < length text → get_or text i 0 ≢ 47
no_slash_at text h i lt e =
    let passes : not (eqb (get_or text i 0) 47) ≡ true = AllPass-from_list_all (λ c. not (eqb c 47)) text h i 0 lt in
    false≢true (ap (λ c. not (eqb c 47)) (sym e) ∙ passes)

-- one segment more at the end
after_slashes-push : (xs : List (List ℕ)) (s : List ℕ) → after_slashes (xs ++ s ∷ []) ≡ after_slashes xs ++ 47 ∷ s
after_slashes-push [] s = ap (λ t. 47 ∷ t) (append-nil s)
after_slashes-push (x ∷ xs) s = ap (λ t. 47 ∷ t) (ap (λ t. x ++ t) (after_slashes-push xs s) ∙ sym (append_assoc x (after_slashes xs) (47 ∷ s)))

joined-push : (first : List ℕ) (xs : List (List ℕ)) (s : List ℕ) → joined_segments (first ∷ (xs ++ s ∷ [])) ≡ joined_segments (first ∷ xs) ++ 47 ∷ s
joined-push first xs s = ap (λ t. first ++ t) (after_slashes-push xs s) ∙ sym (append_assoc first (after_slashes xs) (47 ∷ s))

joined-kept : (first : List ℕ) (kept : List (List ℕ)) (s : List ℕ) → joined_segments (first ∷ reverse (s ∷ kept)) ≡ joined_segments (first ∷ reverse kept) ++ 47 ∷ s
joined-kept first kept s = ap (λ xs. joined_segments (first ∷ xs)) (reverse-append (s ∷ []) kept) ∙ joined-push first (reverse kept) s

-- the slash before a text without one is the last
pub slash_is_last : (path text : List ℕ) → HasNoSlash text → (i : ℕ) → length path < i → i < length (path ++ 47 ∷ text) → get_or (path ++ 47 ∷ text) i 0 ≢ 47
slash_is_last path text h i past within e =
    let j : i ≡ length path + suc (i - length path - 1) = omega arith in
    let lt : i - length path - 1 < length text = omega (arith, length-append path (47 ∷ text)) in
    no_slash_at text h (i - length path - 1) lt (sym (get_or-append-add path (47 ∷ text) (suc (i - length path - 1)) 0) ∙ ap (λ k. get_or (path ++ 47 ∷ text) k 0) (sym j) ∙ e)

-- what is before it
before_last-behind : (path text : List ℕ) → HasNoSlash text → before_last is_slash (path ++ 47 ∷ text) ≡ path
before_last-behind path text h =
    before_last_at (path ++ 47 ∷ text) (length path) (omega (arith, length-append path (47 ∷ text))) (get_or_at path 47 text 0 (length path) refl) (slash_is_last path text h)
    ∙ take_at path (47 ∷ text) (length path) refl

before_last-alone : (text : List ℕ) → HasNoSlash text → before_last is_slash text ≡ []
before_last-alone text h = before_last_none text (no_slash_at text h)

dot_is_no_dot_dot : (s : List ℕ) → is_dot s ≡ true → is_dot_dot s ≡ false
dot_is_no_dot_dot s h = rw ((bytes_eq-Decides s (codes ".")).0 h) refl

-- One step, where the path is the kept segments.
step : (first : List ℕ) (kept : List (List ℕ)) (s : List ℕ) → AllByRecursion HasNoSlash (first ∷ kept) → next_written (segment_of s) (joined_segments (first ∷ reverse kept)) s ≡ joined_segments (first_after first kept s ∷ reverse (kept_after kept s))
step first kept s plain = elim (cases_Bool (is_dot s)) [ inl dot ↦ at_dot dot | inr other ↦ elim (cases_Bool (is_dot_dot s)) [ inl dots ↦ at_dots kept plain other dots | inr name ↦ at_name other name ] ]
  where
    at_dot : is_dot s ≡ true → next_written (segment_of s) (joined_segments (first ∷ reverse kept)) s ≡ joined_segments (first_after first kept s ∷ reverse (kept_after kept s))
    at_dot dot = rw (dot, dot_is_no_dot_dot s dot) refl

    at_name : is_dot s ≡ false → is_dot_dot s ≡ false → next_written (segment_of s) (joined_segments (first ∷ reverse kept)) s ≡ joined_segments (first_after first kept s ∷ reverse (kept_after kept s))
    at_name other name = rw (other, name) (sym (joined-kept first kept s))

    at_dots : (kept : List (List ℕ)) → AllByRecursion HasNoSlash (first ∷ kept) → is_dot s ≡ false → is_dot_dot s ≡ true → next_written (segment_of s) (joined_segments (first ∷ reverse kept)) s ≡ joined_segments (first_after first kept s ∷ reverse (kept_after kept s))
    at_dots [] plain other dots = rw (other, dots) (ap (before_last is_slash) (append-nil first) ∙ before_last-alone first plain.0)
    at_dots (last ∷ kept) plain other dots =
        rw (other, dots, ne_eqb (suc (length kept)) 0 (λ e. absurd (omega arith))) (ap (before_last is_slash) (joined-kept first kept last) ∙ before_last-behind (joined_segments (first ∷ reverse kept)) last plain.1.0)

-- what holds of the empty segment and of each segment so far holds of the kept ones
pub each_kept : (P : List ℕ → Type 0) → P [] → (first : List ℕ) (kept : List (List ℕ)) (s : List ℕ) → AllByRecursion P (first ∷ kept) → P s → AllByRecursion P (first_after first kept s ∷ kept_after kept s)
each_kept P root first kept s all h = (
  elim (is_dot_dot s && eqb (length kept) 0) as (λ b. P (cond b [] first)) [ true ↦ root | false ↦ all.0 ],
  elim (is_dot s) as (λ b. AllByRecursion P (cond b kept (cond (is_dot_dot s) (drop 1 kept) (s ∷ kept)))) [
    | true ↦ all.1
    | false ↦ elim (is_dot_dot s) as (λ b. AllByRecursion P (cond b (drop 1 kept) (s ∷ kept))) [ true ↦ all_but_first kept all.1 | false ↦ (h, all.1) ]
  ],
)
  where
    all_but_first : (xs : List (List ℕ)) → AllByRecursion P xs → AllByRecursion P (drop 1 xs)
    all_but_first [] each = tt
    all_but_first (x ∷ xs) each = each.1

-- the kept segments hold no slash either
still_plain : (first : List ℕ) (kept : List (List ℕ)) (s : List ℕ) → AllByRecursion HasNoSlash (first ∷ kept) → HasNoSlash s → AllByRecursion HasNoSlash (first_after first kept s ∷ kept_after kept s)
still_plain first kept s plain h = each_kept HasNoSlash refl first kept s plain h

-- where the path is once a segment that is no dot segment came
abbrev behind : Bool → Progress
behind ends = cond ends Dots Within

next-step : (s : List ℕ) → next_progress (segment_of s) ≡ behind (is_dot_segment s)
next-step s = elim (cases_Bool (is_dot s)) [ inl dot ↦ rw dot refl | inr other ↦ elim (cases_Bool (is_dot_dot s)) [ inl dots ↦ rw (other, dots) refl | inr name ↦ rw (other, name) refl ] ]

progress-step : (ends : Bool) (s : List ℕ) → progress_then (behind ends) s ≡ behind (is_dot_segment s)
progress-step true s = next-step s
progress-step false s = next-step s

path-step : (ends : Bool) (path s : List ℕ) → path_then (behind ends) path s ≡ next_written (segment_of s) path s
path-step true path s = refl
path-step false path s = refl

-- whether the last segment is a dot segment, or that of which this is said
ends_after : Bool → List (List ℕ) → Bool
ends_after ends [] = ends
ends_after ends (s ∷ rest) = ends_after (is_dot_segment s) rest

ends_after-in_dots : (rest : List (List ℕ)) → ends_after false rest ≡ ends_in_dots rest
unfolding ends_after
ends_after-in_dots [] = refl
ends_after-in_dots (s ∷ []) = refl
ends_after-in_dots (s ∷ next ∷ rest) = ends_after-in_dots (next ∷ rest)

-- all of them after a first one
past_first : (ends : Bool) (first : List ℕ) (kept rest : List (List ℕ)) → AllByRecursion HasNoSlash (first ∷ kept) → AllByRecursion HasNoSlash rest → path_after (behind ends) (joined_segments (first ∷ reverse kept)) rest ++ end_of (progress_after (behind ends) rest) ≡ joined_segments (remaining_segments first kept rest ++ cond (ends_after ends rest) ([] ∷ []) [])
unfolding ends_after
past_first true first kept [] plain all = sym (joined-push first (reverse kept) [])
past_first false first kept [] plain all = append-nil (joined_segments (first ∷ reverse kept)) ∙ ap joined_segments (sym (append-nil (first ∷ reverse kept)))
past_first ends first kept (s ∷ rest) plain all =
    ap (λ p. path_after p (path_then (behind ends) (joined_segments (first ∷ reverse kept)) s) rest ++ end_of (progress_after p rest)) (progress-step ends s)
    ∙ ap (λ t. path_after (behind (is_dot_segment s)) t rest ++ end_of (progress_after (behind (is_dot_segment s)) rest)) (path-step ends (joined_segments (first ∷ reverse kept)) s ∙ step first kept s plain)
    ∙ past_first (is_dot_segment s) (first_after first kept s) (kept_after kept s) rest (still_plain first kept s plain all.0) all.1

-- all of them
from_front : (parts : List (List ℕ)) → AllByRecursion HasNoSlash parts → path_after Front [] parts ++ end_of (progress_after Front parts) ≡ joined_segments (without_dots (drop (prefix_len is_dot_segment parts) parts))
from_front [] all = refl
from_front (s ∷ rest) all = elim (cases_Bool (is_dot s)) [ inl dot ↦ at_dot dot (from_front rest all.1) | inr other ↦ elim (cases_Bool (is_dot_dot s)) [ inl dots ↦ at_dots other dots (from_front rest all.1) | inr name ↦ at_name other name ] ]
  where
    one_more : drop (1 + prefix_len is_dot_segment rest) (s ∷ rest) ≡ drop (prefix_len is_dot_segment rest) rest
    one_more = let e : 1 + prefix_len is_dot_segment rest ≡ suc (prefix_len is_dot_segment rest) = omega arith in rw e refl

    at_dot : is_dot s ≡ true → path_after Front [] rest ++ end_of (progress_after Front rest) ≡ joined_segments (without_dots (drop (prefix_len is_dot_segment rest) rest)) → path_after Front [] (s ∷ rest) ++ end_of (progress_after Front (s ∷ rest)) ≡ joined_segments (without_dots (drop (prefix_len is_dot_segment (s ∷ rest)) (s ∷ rest)))
    at_dot dot rec = rw dot (rec ∙ ap (λ t. joined_segments (without_dots t)) (sym one_more))

    at_dots : is_dot s ≡ false → is_dot_dot s ≡ true → path_after Front [] rest ++ end_of (progress_after Front rest) ≡ joined_segments (without_dots (drop (prefix_len is_dot_segment rest) rest)) → path_after Front [] (s ∷ rest) ++ end_of (progress_after Front (s ∷ rest)) ≡ joined_segments (without_dots (drop (prefix_len is_dot_segment (s ∷ rest)) (s ∷ rest)))
    at_dots other dots rec = rw (other, dots) (rec ∙ ap (λ t. joined_segments (without_dots t)) (sym one_more))

    at_name : is_dot s ≡ false → is_dot_dot s ≡ false → path_after Front [] (s ∷ rest) ++ end_of (progress_after Front (s ∷ rest)) ≡ joined_segments (without_dots (drop (prefix_len is_dot_segment (s ∷ rest)) (s ∷ rest)))
    at_name other name =
        rw (other, name)
        (ap (λ t. path_after Within t rest ++ end_of (progress_after Within rest)) (sym (append-nil s)) ∙ past_first false s [] rest (all.0, tt) all.1
        ∙ ap (λ b. joined_segments (remaining_segments s [] rest ++ cond b ([] ∷ []) [])) (ends_after-in_dots rest))

-- the path without its dot segments
pub written_is_removed : (path : List ℕ) → path_after Front [] (segments path) ++ end_of (progress_after Front (segments path)) ≡ remove_dot_segments path
unfolding remove_dot_segments
written_is_removed path = from_front (segments path) (segments_hold_no_slash path)

-- a path that is written by its segments
pub ended_is_removed : (form : Form) (path : List ℕ) → has_whole_triples path ≡ true → ended_path Front [] (map (written_text form) (segments path)) ≡ remove_dot_segments (written_text form path)
ended_is_removed form path whole = ap (ended_path Front []) (sym (written_segments form path whole)) ∙ written_is_removed (written_text form path)

-- a directory, and then a path
pub merged_is_removed : (form : Form) (directory path : List ℕ) → has_whole_triples directory ≡ true → has_whole_triples path ≡ true → ended_path (progress_after Front (map (written_text form) (segments directory))) (path_after Front [] (map (written_text form) (segments directory))) (map (written_text form) (segments path)) ≡ remove_dot_segments (written_text form (directory ++ 47 ∷ path))
merged_is_removed form directory path front whole =
    let parts = map (written_text form) (segments directory) in
    let rest = map (written_text form) (segments path) in
    ap (λ t. t ++ end_of (progress_after (progress_after Front parts) rest)) (sym (path_after-append Front [] parts rest))
    ∙ ap (λ p. path_after Front [] (parts ++ rest) ++ end_of p) (sym (progress_after-append Front parts rest))
    ∙ ap (ended_path Front []) (sym (map-append (written_text form) (segments directory) (segments path)) ∙ ap (map (written_text form)) (sym (segments-append directory path)))
    ∙ ended_is_removed form (directory ++ 47 ∷ path) (whole-append directory (47 ∷ path) front whole)

-- a path that two forms write alike, and so its segments
pub parts_alike : (form other : Form) (path : List ℕ) → has_whole_triples path ≡ true → written_text form path ≡ written_text other path → map (written_text form) (segments path) ≡ map (written_text other) (segments path)
parts_alike form other path whole same = sym (written_segments form path whole) ∙ ap segments same ∙ written_segments other path whole
