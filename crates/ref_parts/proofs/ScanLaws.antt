-- What the loops of `src/scan.rt` keep, and where the first escape is in words one after another.
use Rattle.std.proofs.Common.{◌≡◌, ℕ, zero, suc, ◌+◌, ◌*◌, ◌/◌, ◌<◌, ◌≤◌, Bool, not, ltb, List, [], ◌∷◌, ◌++◌, length, get_or, take, drop, Some, None, append_assoc, append-nil, length-append, length-drop, add-one, refl, sym, ap, ◌∙◌, subst, arith}
use Rattle.std.specs.Int.Count.{count_trailing_zeros}
use Rattle.std.specs.List.{position_or_len, position, concat}
use Rattle.std.specs.Simd.{first_chunks}
use Rattle.std.proofs.Math.Seq.{take-add}
use Rattle.std.proofs.lemmas.Bool.{cond_both, ltb-true, ltb-false}
use Rattle.std.proofs.lemmas.List.{drop-drop, take-append-drop, length-take}
use Rattle.std.proofs.lemmas.List.Folds.{concat-append}
use Rattle.std.proofs.lemmas.List.Sums.{prefix_len-le-length}
use Rattle.ref_parts.specs.Pointer.{is_escaped}
use Rattle.ref_parts.specs.inner.Words.{IsPlain, MarksFirst}
use Rattle.ref_parts.proofs.WordLaws.{shows_first, length_digits, place_past, place_before, plain_append, position_some, position_none}

-- ---- words one after another

concat_split : (ws : List (List ℕ)) (i : ℕ) → i < length ws → concat ws ≡ concat (take i ws) ++ (get_or ws i [] ++ concat (drop (suc i) ws))
concat_split [] i within = absurd (omega arith)
concat_split (x ∷ ws) zero within = refl
concat_split (x ∷ ws) (suc i) within =
    ap (λ l. x ++ l) (concat_split ws i (omega arith)) ∙ sym (append_assoc x (concat (take i ws)) (get_or ws i [] ++ concat (drop (suc i) ws)))

concat_more : (ws : List (List ℕ)) (i : ℕ) → i < length ws → concat (take (suc i) ws) ≡ concat (take i ws) ++ get_or ws i []
concat_more [] i within = absurd (omega arith)
concat_more (x ∷ ws) zero within = append-nil x
concat_more (x ∷ ws) (suc i) within = ap (λ l. x ++ l) (concat_more ws i (omega arith)) ∙ sym (append_assoc x (concat (take i ws)) (get_or ws i []))

length_concat : (ws : List (List ℕ)) → ((i : ℕ) → i < length ws → length (get_or ws i []) ≡ 8) → (n : ℕ) → n ≤ length ws → length (concat (take n ws)) ≡ n * 8
length_concat ws eight zero within = refl
length_concat ws eight (suc n) within =
    let here = eight n (omega arith) in
    let before = length_concat ws eight n (omega arith) in
    ap length (concat_more ws n (omega arith)) ∙ length-append (concat (take n ws)) (get_or ws n []) ∙ omega (arith, here, before)

-- a word more without an escape
pub plain_more : (ws : List (List ℕ)) (i : ℕ) → i < length ws → IsPlain (concat (take i ws)) → IsPlain (get_or ws i []) → IsPlain (concat (take (i + 1) ws))
plain_more ws i within plain also =
    subst IsPlain (sym (ap (λ n. concat (take n ws)) (add-one i) ∙ concat_more ws i within)) (plain_append is_escaped (concat (take i ws)) (get_or ws i []) plain also)

-- eight words more
pub plain_block : (ws : List (List ℕ)) (i : ℕ) → IsPlain (concat (take i ws)) → IsPlain (concat (take 8 (drop i ws))) → IsPlain (concat (take (i + 8) ws))
plain_block ws i plain also =
    subst IsPlain (sym (ap concat (take-add i 8 ws) ∙ concat-append (take i ws) (take 8 (drop i ws)))) (plain_append is_escaped (concat (take i ws)) (concat (take 8 (drop i ws))) plain also)

pub chunk_at : {X : Type 0} (k : ℕ) (xs : List X) (i : ℕ) → i < k → get_or (first_chunks 8 k xs) i [] ≡ take 8 (drop (i * 8) xs)
chunk_at zero xs i within = absurd (omega arith)
chunk_at (suc k) xs zero within = refl
chunk_at (suc k) xs (suc i) within = chunk_at k (drop 8 xs) i (omega arith) ∙ ap (take 8) (drop-drop (i * 8) 8 xs ∙ ap (λ n. drop n xs) (omega arith))

-- a word whose marks are none
pub plain_word : (bytes : List ℕ) (m : ℕ) → MarksFirst is_escaped bytes m → m ≡ 0 → IsPlain bytes
plain_word bytes m marked = (shows_first is_escaped bytes m marked).none

-- where the first mark is
pub found_in_words : (ws : List (List ℕ)) (n m : ℕ) → ((i : ℕ) → i < length ws → length (get_or ws i []) ≡ 8) → n < length ws → IsPlain (concat (take n ws)) → MarksFirst is_escaped (get_or ws n []) m → 0 < m
    → Some (n * 8 + count_trailing_zeros 64 m / 8) ≡ position is_escaped (concat ws)
found_in_words ws n m eight within plain marked some =
    let word = get_or ws n [] in
    let behind = concat (drop (suc n) ws) in
    let found = (shows_first is_escaped word m marked).first some in
    let here : count_trailing_zeros 64 m / 8 ≡ position_or_len is_escaped word =
    ap (λ k. count_trailing_zeros k m / 8) (omega (arith, length_digits word, eight n within)) ∙ found.1 in
    let front = length_concat ws eight n (omega arith) in
    let place : position_or_len is_escaped (concat ws) ≡ n * 8 + position_or_len is_escaped word =
    ap (position_or_len is_escaped) (concat_split ws n within) ∙ place_past is_escaped (concat (take n ws)) (word ++ behind) plain
    ∙ ap (λ k. length (concat (take n ws)) + k) (place_before is_escaped word behind found.0) ∙ ap (λ k. k + position_or_len is_escaped word) front in
    let long : length (concat ws) ≡ n * 8 + (8 + length behind) =
    ap length (concat_split ws n within) ∙ length-append (concat (take n ws)) (word ++ behind) ∙ omega (arith, front, length-append word behind, eight n within) in
    position_some is_escaped (concat ws) _ (omega (arith, place, long, found.0, eight n within)) (omega (arith, place, here))

-- ---- words and the rest

pub concat_chunks : (k : ℕ) (xs : List ℕ) → concat (first_chunks 8 k xs) ++ drop (k * 8) xs ≡ xs
concat_chunks zero xs = refl
concat_chunks (suc k) xs =
    append_assoc (take 8 xs) (concat (first_chunks 8 k (drop 8 xs))) (drop (suc k * 8) xs)
    ∙ ap (λ l. take 8 xs ++ (concat (first_chunks 8 k (drop 8 xs)) ++ l)) (ap (λ n. drop n xs) (omega arith) ∙ sym (drop-drop (k * 8) 8 xs))
    ∙ ap (λ l. take 8 xs ++ l) (concat_chunks k (drop 8 xs)) ∙ take-append-drop 8 xs

first_chunks_long : (k : ℕ) (xs : List ℕ) → k * 8 ≤ length xs → length (concat (first_chunks 8 k xs)) ≡ length (first_chunks 8 k xs) * 8
first_chunks_long zero xs within = refl
first_chunks_long (suc k) xs within =
    let rest = first_chunks_long k (drop 8 xs) (omega (arith, length-drop 8 xs)) in
    length-append (take 8 xs) (concat (first_chunks 8 k (drop 8 xs))) ∙ omega (arith, rest, length-take 8 xs)

pub length_chunks : (bytes : List ℕ) (words : List (List ℕ)) → words ≡ first_chunks 8 (length bytes / 8) bytes → length (concat words) ≡ length words * 8
length_chunks bytes words is =
    ap (λ w. length (concat w)) is ∙ first_chunks_long (length bytes / 8) bytes (omega arith) ∙ ap (λ w. length w * 8) (sym is)

place_of_some : (p : ℕ → Bool) (xs : List ℕ) (i : ℕ) → position p xs ≡ Some i → (position_or_len p xs < length xs) × (position_or_len p xs ≡ i)
place_of_some p xs i =
    cond_both (ltb (position_or_len p xs) (length xs)) (Some (position_or_len p xs)) None (λ o. o ≡ Some i → (position_or_len p xs < length xs) × (position_or_len p xs ≡ i))
    (λ yes found. (ltb-true _ _ yes, cc))
    (λ no found. absurd (cc))

place_of_none : (p : ℕ → Bool) (xs : List ℕ) → position p xs ≡ None → position_or_len p xs ≡ length xs
place_of_none p xs =
    cond_both (ltb (position_or_len p xs) (length xs)) (Some (position_or_len p xs)) None (λ o. o ≡ None → position_or_len p xs ≡ length xs)
    (λ yes none. absurd (cc))
    (λ no none. let over = ltb-false (position_or_len p xs) (length xs) no in let under = prefix_len-le-length (λ x. not (p x)) xs in omega (arith, over, under))

pub some_in_front : (p : ℕ → Bool) (xs ys : List ℕ) (i : ℕ) → position p xs ≡ Some i → Some i ≡ position p (xs ++ ys)
some_in_front p xs ys i found =
    let at = place_of_some p xs i found in
    let same = place_before p xs ys at.0 in
    position_some p (xs ++ ys) i (omega (arith, at.0, same, length-append xs ys)) (omega (arith, at.1, same))

pub some_after : (p : ℕ → Bool) (xs ys : List ℕ) (i : ℕ) → position p xs ≡ None → position p ys ≡ Some i → Some (length xs + i) ≡ position p (xs ++ ys)
some_after p xs ys i none found =
    let at = place_of_some p ys i found in
    let same = place_past p xs ys (place_of_none p xs none) in
    position_some p (xs ++ ys) (length xs + i) (omega (arith, at.0, same, length-append xs ys)) (omega (arith, at.1, same))

pub none_at_all : (p : ℕ → Bool) (xs ys : List ℕ) → position p xs ≡ None → position p ys ≡ None → None ≡ position p (xs ++ ys)
none_at_all p xs ys none also =
    position_none p (xs ++ ys) (plain_append p xs ys (place_of_none p xs none) (place_of_none p ys also))
