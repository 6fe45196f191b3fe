-- As many rounds as there are documents reach all that are needed.
use Rattle.std.proofs.Common.{◌≡◌, ℕ, zero, suc, ◌+◌, ◌<◌, ◌≤◌, Bool, true, false, ◌==◌, ◌||◌, cond, List, [], ◌∷◌, flat_map, filter, length, ◌⊎◌, inl, inr, ⊎_elim, refl, ap, sym, subst, ◌∙◌, arith, true≢false}
use Rattle.std.proofs.lemmas.Bool.{eqb-true, eq-eqb}
use Rattle.ref_definitions.specs.World.{Layer}
use Rattle.ref_bundle.specs.Needed.{Further, numbers, is_among, referred_from, with_referred, reached_documents, numbers_of_needed}
use Rattle.ref_bundle.proofs.Numbers.{or_cases, or_left, or_right, and_left, and_right, both, among_append, among_filter, among_numbers, within_numbers, numbers_length}

-- ---- two filters of one list

step : (b c : Bool) (x : ℕ) (ps qs : List ℕ) → (b ≡ true → c ≡ true) → (ps ≡ qs) ⊎ (suc (length ps) ≤ length qs)
    → (cond b (x ∷ ps) ps ≡ cond c (x ∷ qs) qs) ⊎ (suc (length (cond b (x ∷ ps) ps)) ≤ length (cond c (x ∷ qs) qs))
step true true x ps qs is (inl same) = inl (ap (λ l. x ∷ l) same)
step true true x ps qs is (inr less) = inr (omega (arith, less))
step true false x ps qs is rest = absurd (true≢false (sym (is refl)))
step false true x ps qs is (inl same) = let long = ap length same in inr (omega (arith, long))
step false true x ps qs is (inr less) = inr (omega (arith, less))
step false false x ps qs is rest = rest

-- where one passes all that the other does, they are the same or it is longer
same_or_more : (p q : ℕ → Bool) (xs : List ℕ) → ((x : ℕ) → is_among xs x ≡ true → p x ≡ true → q x ≡ true)
    → (filter p xs ≡ filter q xs) ⊎ (suc (length (filter p xs)) ≤ length (filter q xs))
same_or_more p q [] is = inl refl
same_or_more p q (x ∷ xs) is =
    step (p x) (q x) x (filter p xs) (filter q xs) (is x (or_left (x == x) _ (eq-eqb x x refl)))
    (same_or_more p q xs (λ y among. is y (or_right (x == y) _ among)))

cond_length : (b : Bool) (x : ℕ) (ps : List ℕ) → length (cond b (x ∷ ps) ps) ≤ suc (length ps)
cond_length true x ps = omega arith
cond_length false x ps = omega arith

filter_length : (p : ℕ → Bool) (xs : List ℕ) → length (filter p xs) ≤ length xs
filter_length p [] = omega arith
filter_length p (x ∷ xs) = let first = cond_length (p x) x (filter p xs) in let rest = filter_length p xs in omega (arith, first, rest)

-- ---- rounds

-- numbers of documents, filtered
abbrev pub IsFiltered : Layer → List ℕ → Type 0
IsFiltered layer some = (p : ℕ → Bool) × (some ≡ filter p (numbers layer))

-- the test of a round
round_test : Layer → Further → List ℕ → ℕ → Bool
round_test layer fs some n = is_among some n || is_among (flat_map (referred_from layer fs) some) n

round_is : (layer : Layer) (fs : Further) (some : List ℕ) → with_referred layer fs some ≡ filter (round_test layer fs some) (numbers layer)
unfolding round_test
round_is layer fs some = refl

round_filtered : (layer : Layer) (fs : Further) (some : List ℕ) → IsFiltered layer (with_referred layer fs some)
round_filtered layer fs some = (round_test layer fs some, round_is layer fs some)

one_round : (layer : Layer) (fs : Further) (some : List ℕ) → IsFiltered layer some
    → (some ≡ with_referred layer fs some) ⊎ (suc (length some) ≤ length (with_referred layer fs some))
unfolding round_test
one_round layer fs some (p, is) =
    let passes = λ (x : ℕ) (among : is_among (numbers layer) x ≡ true) (h : p x ≡ true). or_left (is_among some x) (is_among (flat_map (referred_from layer fs) some) x)
    (ap (λ l. is_among l x) is ∙ among_filter p (numbers layer) x ∙ both _ _ among h) in
    ⊎_elim
    (λ same. inl (is ∙ same ∙ sym (round_is layer fs some)))
    (λ more. let a = ap length is in let b = ap length (round_is layer fs some) in inr (omega (arith, more, a, b)))
    (same_or_more p (round_test layer fs some) (numbers layer) passes)

stays : (layer : Layer) (fs : Further) (rounds : ℕ) (some : List ℕ) → some ≡ with_referred layer fs some → reached_documents layer fs rounds some ≡ some
stays layer fs zero some same = refl
stays layer fs (suc rounds) some same = ap (reached_documents layer fs rounds) (sym same) ∙ stays layer fs rounds some same

-- after some rounds one more changes nothing, or each made the list longer
same_or_longer : (layer : Layer) (fs : Further) (rounds : ℕ) (some : List ℕ) → IsFiltered layer some
    → (reached_documents layer fs rounds some ≡ with_referred layer fs (reached_documents layer fs rounds some)) ⊎ (suc (length some + rounds) ≤ length (with_referred layer fs (reached_documents layer fs rounds some)))
same_or_longer layer fs zero some is =
    ⊎_elim (λ same. inl same) (λ more. inr (omega (arith, more))) (one_round layer fs some is)
same_or_longer layer fs (suc rounds) some is =
    ⊎_elim
    (λ same. let still = ap (reached_documents layer fs rounds) (sym same) ∙ stays layer fs rounds some same in
    inl (still ∙ same ∙ ap (with_referred layer fs) (sym still)))
    (λ more. ⊎_elim (λ same. inl same) (λ longer. inr (omega (arith, more, longer)))
    (same_or_longer layer fs rounds (with_referred layer fs some) (round_filtered layer fs some)))
    (one_round layer fs some is)

start : Layer → ℕ → List ℕ
start layer root = filter (λ n. n == root) (numbers layer)

-- one more round after all changes nothing
no_more : (layer : Layer) (fs : Further) (root : ℕ) → numbers_of_needed layer fs root ≡ with_referred layer fs (numbers_of_needed layer fs root)
unfolding start
no_more layer fs root =
    ⊎_elim
    (λ same. same)
    (λ longer. let most = filter_length (round_test layer fs (numbers_of_needed layer fs root)) (numbers layer) in
    let long = ap length (round_is layer fs (numbers_of_needed layer fs root)) in let all = numbers_length layer in absurd (omega (arith, longer, most, long, all)))
    (same_or_longer layer fs (length layer) (start layer root) ((λ n. n == root), refl))

-- ---- what is needed

kept_by_round : (layer : Layer) (fs : Further) (some : List ℕ) (n : ℕ) → is_among some n ≡ true → is_among (numbers layer) n ≡ true → is_among (with_referred layer fs some) n ≡ true
unfolding round_test
kept_by_round layer fs some n is within = ap (λ l. is_among l n) (round_is layer fs some) ∙ among_filter (round_test layer fs some) (numbers layer) n ∙ both _ _ within (or_left (is_among some n) _ is)

kept : (layer : Layer) (fs : Further) (rounds : ℕ) (some : List ℕ) (n : ℕ) → is_among some n ≡ true → is_among (numbers layer) n ≡ true → is_among (reached_documents layer fs rounds some) n ≡ true
kept layer fs zero some n is within = is
kept layer fs (suc rounds) some n is within = kept layer fs rounds (with_referred layer fs some) n (kept_by_round layer fs some n is within) within

-- the root is needed
pub root_needed : (layer : Layer) (fs : Further) (root : ℕ) → root < length layer → is_among (numbers_of_needed layer fs root) root ≡ true
root_needed layer fs root within =
    let among = among_numbers layer root within in
    kept layer fs (length layer) (filter (λ n. n == root) (numbers layer)) root (among_filter (λ n. n == root) (numbers layer) root ∙ both _ _ among (eq-eqb root root refl)) among

among_joined : (f : ℕ → List ℕ) (xs : List ℕ) (n m : ℕ) → is_among xs n ≡ true → is_among (f n) m ≡ true → is_among (flat_map f xs) m ≡ true
among_joined f [] n m is among = absurd (true≢false (sym is))
among_joined f (x ∷ xs) n m is among =
    among_append (f x) (flat_map f xs) m
    ∙ ⊎_elim
    (λ here. or_left _ _ (ap (λ y. is_among (f y) m) (eqb-true x n here) ∙ among))
    (λ later. or_right _ _ (among_joined f xs n m later among))
    (or_cases (x == n) _ is)

-- and so is what a needed document refers to
pub referred_needed : (layer : Layer) (fs : Further) (root n m : ℕ) → is_among (numbers_of_needed layer fs root) n ≡ true → is_among (referred_from layer fs n) m ≡ true → m < length layer → is_among (numbers_of_needed layer fs root) m ≡ true
unfolding round_test
referred_needed layer fs root n m is among within =
    let some = numbers_of_needed layer fs root in
    ap (λ l. is_among l m) (no_more layer fs root ∙ round_is layer fs some) ∙ among_filter (round_test layer fs some) (numbers layer) m
    ∙ both _ _ (among_numbers layer m within) (or_right (is_among some m) _ (among_joined (referred_from layer fs) some n m is among))

in_joined : (f : ℕ → List ℕ) (xs : List ℕ) (m : ℕ) → is_among (flat_map f xs) m ≡ true → (n : ℕ) × (is_among xs n ≡ true) × (is_among (f n) m ≡ true)
in_joined f [] m is = absurd (true≢false (sym is))
in_joined f (x ∷ xs) m is =
    ⊎_elim
    (λ here. (x, or_left (x == x) _ (eq-eqb x x refl), here))
    (λ later. let found = in_joined f xs m later in (found.0, or_right (x == found.0) _ found.1, found.2))
    (or_cases (is_among (f x) m) (is_among (flat_map f xs) m) (sym (among_append (f x) (flat_map f xs) m) ∙ is))

-- what a test holds of, holds again after rounds
all_pass : (layer : Layer) (fs : Further) (test : ℕ → Bool) → ((n m : ℕ) → test n ≡ true → is_among (referred_from layer fs n) m ≡ true → m < length layer → test m ≡ true)
    → (rounds : ℕ) (some : List ℕ) → ((n : ℕ) → is_among some n ≡ true → test n ≡ true) → (n : ℕ) → is_among (reached_documents layer fs rounds some) n ≡ true → test n ≡ true
unfolding round_test
all_pass layer fs test closed zero some pass = pass
all_pass layer fs test closed (suc rounds) some pass =
    all_pass layer fs test closed rounds (with_referred layer fs some)
    (λ n is. let passes = sym (ap (λ l. is_among l n) (round_is layer fs some) ∙ among_filter (round_test layer fs some) (numbers layer) n) ∙ is in
    ⊎_elim (pass n)
    (λ more. let from = in_joined (referred_from layer fs) some n more in closed from.0 n (pass from.0 from.1) from.2 (within_numbers layer n (and_left _ _ passes)))
    (or_cases (is_among some n) _ (and_right (is_among (numbers layer) n) _ passes)))

-- nothing else is needed: a test that holds of the root, and of what the documents refer to of which it holds, holds of all
pub needed_least : (layer : Layer) (fs : Further) (root : ℕ) (test : ℕ → Bool) → (root < length layer → test root ≡ true)
    → ((n m : ℕ) → test n ≡ true → is_among (referred_from layer fs n) m ≡ true → m < length layer → test m ≡ true)
    → (n : ℕ) → is_among (numbers_of_needed layer fs root) n ≡ true → test n ≡ true
needed_least layer fs root test has closed =
    all_pass layer fs test closed (length layer) (filter (λ n. n == root) (numbers layer))
    (λ n is. let passes = sym (among_filter (λ m. m == root) (numbers layer) n) ∙ is in
    let same = eqb-true n root (and_right (is_among (numbers layer) n) _ passes) in
    let within = within_numbers layer n (and_left _ _ passes) in
    subst (λ k. test k ≡ true) (sym same) (has (subst (λ k. k < length layer) same within)))

-- needed documents have numbers
pub needed_within : (layer : Layer) (fs : Further) (root n : ℕ) → is_among (numbers_of_needed layer fs root) n ≡ true → n < length layer
unfolding round_test
needed_within layer fs root n is =
    let some = numbers_of_needed layer fs root in
    within_numbers layer n (and_left _ _ (sym (ap (λ l. is_among l n) (no_more layer fs root ∙ round_is layer fs some) ∙ among_filter (round_test layer fs some) (numbers layer) n) ∙ is))
