-- The documents that a bundle needs are closed: what they refer to is among them.
use Rattle.std.proofs.Common.{◌≡◌, ℕ, zero, suc, ◌+◌, ◌≤◌, ◌<◌, Bool, true, false, cond, ◌||◌, ◌==◌, eqb-true, eq-eqb, List, [], ◌∷◌, flat_map, map, filter, length, Option, Some, None, slice_get, ◌⊎◌, inl, inr, ⊎_elim, refl, sym, ap, subst, ◌∙◌, true≢false, arith}
use Rattle.std.specs.List.{AllByRecursion, Contains}
use Rattle.std.specs.Option.{option_map_or, option_to_list}
use Rattle.std.proofs.lemmas.List.Elements.{Contains-append_right, Contains-append_left}
use Rattle.ref_definitions.specs.World.{Document, Layer}
use Rattle.ref_definitions.specs.Places.{Place, places}
use Rattle.ref_bundle.specs.Needed.{Further, Seen, further_in, counted_documents, document_under, targets_from, targets, referred_in, referred_by_seen, referred_of, referred_from, is_among, numbers, with_referred, reached_documents, numbers_of_needed, needed_documents}
use Rattle.ref_definitions.proofs.Lists.{first_or_later, in_joined, in_map}

-- ---- numbers of a list

pub or_first : (a b : Bool) → a ≡ true → (a || b) ≡ true
or_first true b is = refl
or_first false b is = absurd (true≢false (sym is))

pub or_second : (a b : Bool) → b ≡ true → (a || b) ≡ true
or_second true b is = refl
or_second false b is = is

pub is_there : (ns : List ℕ) (n : ℕ) → Contains ns n → is_among ns n ≡ true
is_there [] n there = absurd (omega (arith, there.1))
is_there (m ∷ ns) n there =
    ⊎_elim (λ same. or_first (m == n) (is_among ns n) (eq-eqb m n same)) (λ later. or_second (m == n) (is_among ns n) (is_there ns n later)) (first_or_later m ns n there)

there_by : (ns : List ℕ) (m n : ℕ) (b : Bool) → (m == n) ≡ b → (is_among ns n ≡ true → Contains ns n) → (b || is_among ns n) ≡ true → Contains (m ∷ ns) n
there_by ns m n true here later any = (0, omega arith, eqb-true m n here)
there_by ns m n false here later any = Contains-append_right (m ∷ []) ns n (later any)

pub there_is : (ns : List ℕ) (n : ℕ) → is_among ns n ≡ true → Contains ns n
there_is [] n is = absurd (true≢false (sym is))
there_is (m ∷ ns) n is = there_by ns m n (m == n) refl (λ later. there_is ns n later) is

kept_at : {X : Type 0} (test : X → Bool) (y : X) (ys : List X) (x : X) (b : Bool) → test y ≡ b → test x ≡ true → (y ≡ x) ⊎ Contains (filter test ys) x → Contains (cond b (y ∷ filter test ys) (filter test ys)) x
kept_at test y ys x true is passes (inl same) = (0, omega arith, same)
kept_at test y ys x true is passes (inr later) = Contains-append_right (y ∷ []) (filter test ys) x later
kept_at test y ys x false is passes (inl same) = absurd (true≢false (sym passes ∙ ap test (sym same) ∙ is))
kept_at test y ys x false is passes (inr later) = later

pub kept_in : {X : Type 0} (test : X → Bool) (xs : List X) (x : X) → Contains xs x → test x ≡ true → Contains (filter test xs) x
kept_in test [] x there passes = absurd (omega (arith, there.1))
kept_in test (y ∷ ys) x there passes =
    kept_at test y ys x (test y) refl passes (⊎_elim (λ same. inl same) (λ later. inr (kept_in test ys x later passes)) (first_or_later y ys x there))

-- ---- documents at their numbers

pub counted_at : (number : ℕ) (ds : Layer) (i : ℕ) (d : Document) → slice_get ds i ≡ Some d → Contains (counted_documents number ds) (i + number, d)
counted_at number [] i d is = absurd (let e : None ≡ Some d = is in cc)
counted_at number (c ∷ ds) zero d is = let same : c ≡ d = cc in (0, omega arith, ap (λ x. (number, x)) same ∙ ap (λ n. (n, d)) (let e : number ≡ zero + number = omega arith in e))
counted_at number (c ∷ ds) (suc i) d is =
    Contains-append_right ((number, c) ∷ []) (counted_documents (suc number) ds) (suc i + number, d)
    (subst (λ n. Contains (counted_documents (suc number) ds) (n, d)) (let e : i + suc number ≡ suc i + number = omega arith in e) (counted_at (suc number) ds i d is))

record IsAtNumber (number : ℕ) (ds : Layer) (x : ℕ × Document) : Type 0 where
  index : ℕ
  is : x.0 ≡ index + number
  there : slice_get ds index ≡ Some x.1

at_number : (number : ℕ) (ds : Layer) (x : ℕ × Document) → Contains (counted_documents number ds) x → IsAtNumber number ds x
at_number number [] x there = absurd (omega (arith, there.1))
at_number number (d ∷ ds) x there =
    ⊎_elim
    (λ same. record { index = zero; is = sym (ap (λ (e : ℕ × Document). e.0) same) ∙ (let e : number ≡ zero + number = omega arith in e); there = ap (λ (e : ℕ × Document). Some e.1) same })
    (λ later. let rest = at_number (suc number) ds x later in
    record { index = suc rest.index; is = rest.is ∙ (let e : rest.index + suc number ≡ suc rest.index + number = omega arith in e); there = rest.there })
    (first_or_later (number, d) (counted_documents (suc number) ds) x there)

pub got_at : (layer : Layer) (x : ℕ × Document) → Contains (counted_documents 0 layer) x → slice_get layer x.0 ≡ Some x.1
got_at layer x there =
    let at = at_number 0 layer x there in
    ap (slice_get layer) (at.is ∙ (let e : at.index + 0 ≡ at.index = omega arith in e)) ∙ at.there

pub length_counted : (number : ℕ) (ds : Layer) → length (map (λ (e : ℕ × Document). e.0) (counted_documents number ds)) ≡ length ds
length_counted number [] = refl
length_counted number (d ∷ ds) = ap suc (length_counted (suc number) ds)

-- ---- rounds

-- a weaker test keeps the same, or more
abbrev SameOrMore : List ℕ → List ℕ → Type 0
SameOrMore xs ys = (xs ≡ ys) ⊎ (length xs < length ys)

more_at : (n : ℕ) (xs ys : List ℕ) (a b : Bool) → (a ≡ true → b ≡ true) → SameOrMore xs ys → SameOrMore (cond a (n ∷ xs) xs) (cond b (n ∷ ys) ys)
more_at n xs ys true true weaker (inl same) = inl (ap (λ l. n ∷ l) same)
more_at n xs ys true true weaker (inr less) = inr (omega (arith, less))
more_at n xs ys true false weaker both = absurd (true≢false (sym (weaker refl)))
more_at n xs ys false true weaker (inl same) = inr (subst (λ l. length xs < suc (length l)) same (omega arith))
more_at n xs ys false true weaker (inr less) = inr (omega (arith, less))
more_at n xs ys false false weaker both = both

same_or_more : (t u : ℕ → Bool) (ns : List ℕ) → AllByRecursion (λ n. t n ≡ true → u n ≡ true) ns → SameOrMore (filter t ns) (filter u ns)
same_or_more t u [] weaker = inl refl
same_or_more t u (n ∷ ns) weaker = more_at n (filter t ns) (filter u ns) (t n) (u n) weaker.0 (same_or_more t u ns weaker.1)

filter_shorter : (t : ℕ → Bool) (ns : List ℕ) → length (filter t ns) ≤ length ns
filter_shorter t [] = omega arith
filter_shorter t (n ∷ ns) = by_test (t n) (filter_shorter t ns)
  where
    by_test : (b : Bool) → length (filter t ns) ≤ length ns → length (cond b (n ∷ filter t ns) (filter t ns)) ≤ suc (length ns)
    by_test true less = omega (arith, less)
    by_test false less = omega (arith, less)

-- numbers that a test keeps of those of a layer
pub record IsPicked (layer : Layer) (ns : List ℕ) : Type 0 where
  pub test : ℕ → Bool
  pub are : ns ≡ filter test (numbers layer)

abbrev pub next_test : Layer → Further → List ℕ → ℕ → Bool
next_test layer fs some n = is_among some n || is_among (flat_map (referred_from layer fs) some) n

weaker_next : (layer : Layer) (fs : Further) (ns : List ℕ) (t : ℕ → Bool) (more : List ℕ) → ((n : ℕ) → Contains ns n → t n ≡ true → is_among more n ≡ true) → AllByRecursion (λ n. t n ≡ true → next_test layer fs more n ≡ true) ns
weaker_next layer fs [] t more each = tt
weaker_next layer fs (n ∷ ns) t more each = (
  (λ passes. or_first (is_among more n) (is_among (flat_map (referred_from layer fs) more) n) (each n (0, omega arith, refl) passes)),
  weaker_next layer fs ns t more (λ m there passes. each m (Contains-append_right (n ∷ []) ns m there) passes),
)

grows : (layer : Layer) (fs : Further) (some : List ℕ) → IsPicked layer some → SameOrMore some (with_referred layer fs some)
grows layer fs some picked =
    subst (λ s. SameOrMore s (with_referred layer fs some)) (sym picked.are)
    (same_or_more picked.test (next_test layer fs some) (numbers layer)
    (weaker_next layer fs (numbers layer) picked.test some (λ n there passes. is_there some n (subst (λ s. Contains s n) (sym picked.are) (kept_in picked.test (numbers layer) n there passes)))))

pub picked_next : (layer : Layer) (fs : Further) (some : List ℕ) → IsPicked layer (with_referred layer fs some)
picked_next layer fs some = record { test = next_test layer fs some; are = refl }

pub stays_reached : (layer : Layer) (fs : Further) (rounds : ℕ) (some : List ℕ) → some ≡ with_referred layer fs some → reached_documents layer fs rounds some ≡ some
stays_reached layer fs zero some same = refl
stays_reached layer fs (suc rounds) some same = ap (reached_documents layer fs rounds) (sym same) ∙ stays_reached layer fs rounds some same

-- after some rounds nothing is added any more, or each has added one
abbrev IsSettledOr : Layer → Further → ℕ → List ℕ → Type 0
IsSettledOr layer fs rounds some = (reached_documents layer fs rounds some ≡ with_referred layer fs (reached_documents layer fs rounds some)) ⊎ (rounds + length some ≤ length (reached_documents layer fs rounds some))

settles : (layer : Layer) (fs : Further) (rounds : ℕ) (some : List ℕ) → IsPicked layer some → IsSettledOr layer fs rounds some
settles layer fs zero some picked = inr (omega arith)
settles layer fs (suc rounds) some picked =
    by_growth (grows layer fs some picked) (settles layer fs rounds (with_referred layer fs some) (picked_next layer fs some))
  where
    by_growth : SameOrMore some (with_referred layer fs some) → IsSettledOr layer fs rounds (with_referred layer fs some) → IsSettledOr layer fs (suc rounds) some
    by_growth (inl same) later =
        let end : reached_documents layer fs (suc rounds) some ≡ some = stays_reached layer fs (suc rounds) some same in
        inl (end ∙ same ∙ ap (with_referred layer fs) (sym end))
    by_growth (inr less) (inl settled) = inl settled
    by_growth (inr less) (inr many) = inr (omega (arith, less, many))

pub picked_after : (layer : Layer) (fs : Further) (rounds : ℕ) (some : List ℕ) → IsPicked layer some → IsPicked layer (reached_documents layer fs rounds some)
picked_after layer fs zero some picked = picked
picked_after layer fs (suc rounds) some picked = picked_after layer fs rounds (with_referred layer fs some) (picked_next layer fs some)

picked_shorter : (layer : Layer) (some : List ℕ) → IsPicked layer some → length some ≤ length layer
picked_shorter layer some picked =
    subst (λ s. length s ≤ length layer) (sym picked.are)
    (subst (λ n. length (filter picked.test (numbers layer)) ≤ n) (length_counted 0 layer) (filter_shorter picked.test (numbers layer)))

longer_than_none : (ns : List ℕ) (n : ℕ) → Contains ns n → 1 ≤ length ns
longer_than_none [] n there = absurd (omega (arith, there.1))
longer_than_none (m ∷ ns) n there = omega arith

pub picked_begun : (layer : Layer) (root : ℕ) → IsPicked layer (filter (λ n. n == root) (numbers layer))
picked_begun layer root = record { test = λ n. n == root; are = refl }

pub in_numbers : (layer : Layer) (x : ℕ × Document) → Contains (counted_documents 0 layer) x → Contains (numbers layer) x.0
in_numbers layer x there = in_map (λ (e : ℕ × Document). e.0) (counted_documents 0 layer) x there

pub root_begun : (layer : Layer) (x : ℕ × Document) → Contains (counted_documents 0 layer) x → Contains (filter (λ n. n == x.0) (numbers layer)) x.0
root_begun layer x there = kept_in (λ n. n == x.0) (numbers layer) x.0 (in_numbers layer x there) (eq-eqb x.0 x.0 refl)

-- nothing more is needed
pub settled : (layer : Layer) (fs : Further) (x : ℕ × Document) → Contains (counted_documents 0 layer) x → numbers_of_needed layer fs x.0 ≡ with_referred layer fs (numbers_of_needed layer fs x.0)
settled layer fs x there =
    let start = filter (λ n. n == x.0) (numbers layer) in
    let one = longer_than_none start x.0 (root_begun layer x there) in
    let short = picked_shorter layer (numbers_of_needed layer fs x.0) (picked_after layer fs (length layer) start (picked_begun layer x.0)) in
    ⊎_elim (λ is. is) (λ many. absurd (omega (arith, one, short, many))) (settles layer fs (length layer) start (picked_begun layer x.0))

-- what is needed stays so
pub stays_needed : (layer : Layer) (fs : Further) (rounds : ℕ) (some : List ℕ) (n : ℕ) → Contains (numbers layer) n → Contains some n → Contains (reached_documents layer fs rounds some) n
stays_needed layer fs zero some n own there = there
stays_needed layer fs (suc rounds) some n own there =
    stays_needed layer fs rounds (with_referred layer fs some) n own
    (kept_in (next_test layer fs some) (numbers layer) n own (or_first (is_among some n) (is_among (flat_map (referred_from layer fs) some) n) (is_there some n there)))

pub root_needed : (layer : Layer) (fs : Further) (x : ℕ × Document) → Contains (counted_documents 0 layer) x → Contains (needed_documents layer fs x.0) x
root_needed layer fs x there =
    kept_in (λ (e : ℕ × Document). is_among (numbers_of_needed layer fs x.0) e.0) (counted_documents 0 layer) x there
    (is_there (numbers_of_needed layer fs x.0) x.0 (stays_needed layer fs (length layer) (filter (λ n. n == x.0) (numbers layer)) x.0 (in_numbers layer x there) (root_begun layer x there)))

-- ---- closed

pub passes_kept : {X : Type 0} (test : X → Bool) (xs : List X) (x : X) → Contains (filter test xs) x → Contains xs x × (test x ≡ true)
passes_kept test [] x there = absurd (omega (arith, there.1))
passes_kept test (y ∷ ys) x there = by_test (test y) refl (λ later. passes_kept test ys x later) there
  where
    by_test : (b : Bool) → test y ≡ b → (Contains (filter test ys) x → Contains ys x × (test x ≡ true)) → Contains (cond b (y ∷ filter test ys) (filter test ys)) x → Contains (y ∷ ys) x × (test x ≡ true)
    by_test true is more at = ⊎_elim (λ same. ((0, omega arith, same), ap test (sym same) ∙ is)) (λ later. let rest = more later in (Contains-append_right (y ∷ []) ys x rest.0, rest.1)) (first_or_later y (filter test ys) x at)
    by_test false is more at = let rest = more at in (Contains-append_right (y ∷ []) ys x rest.0, rest.1)

listed : (o : Option ℕ) (k : ℕ) → o ≡ Some k → Contains (option_to_list o) k
listed None k is = absurd (let e : None ≡ Some k = is in cc)
listed (Some n) k is = (0, omega arith, let e : Some n ≡ Some k = is in cc)

-- what a needed document refers to is needed
pub referred_needed : (layer : Layer) (fs : Further) (root e x : ℕ × Document) → Contains (counted_documents 0 layer) root → Contains (needed_documents layer fs root.0) e → Contains (referred_of layer fs e) x.0
    → Contains (counted_documents 0 layer) x → Contains (needed_documents layer fs root.0) x
referred_needed layer fs root e x there need refers own =
    let of_e = passes_kept (λ (y : ℕ × Document). is_among (numbers_of_needed layer fs root.0) y.0) (counted_documents 0 layer) e need in
    let in_number : Contains (referred_from layer fs e.0) x.0 =
    subst (λ o. Contains (option_map_or (λ d. referred_of layer fs (e.0, d)) o []) x.0) (sym (got_at layer e of_e.0)) refers in
    let in_all : Contains (flat_map (referred_from layer fs) (numbers_of_needed layer fs root.0)) x.0 =
    in_joined (referred_from layer fs) (numbers_of_needed layer fs root.0) e.0 x.0 (there_is (numbers_of_needed layer fs root.0) e.0 of_e.1) in_number in
    let among : Contains (with_referred layer fs (numbers_of_needed layer fs root.0)) x.0 =
    kept_in (next_test layer fs (numbers_of_needed layer fs root.0)) (numbers layer) x.0 (in_numbers layer x own)
    (or_second (is_among (numbers_of_needed layer fs root.0) x.0) (is_among (flat_map (referred_from layer fs) (numbers_of_needed layer fs root.0)) x.0) (is_there (flat_map (referred_from layer fs) (numbers_of_needed layer fs root.0)) x.0 in_all)) in
    kept_in (λ (y : ℕ × Document). is_among (numbers_of_needed layer fs root.0) y.0) (counted_documents 0 layer) x own
    (is_there (numbers_of_needed layer fs root.0) x.0 (subst (λ ns. Contains ns x.0) (sym (settled layer fs root there)) among))

-- the document that a target of a needed document's place means is needed
pub target_needed : (layer : Layer) (fs : Further) (root e x : ℕ × Document) (p : Place) (uri : List ℕ) → Contains (counted_documents 0 layer) root → Contains (needed_documents layer fs root.0) e → Contains (places e.1) p → Contains (targets p) uri
    → document_under layer uri ≡ Some x.0 → Contains (counted_documents 0 layer) x → Contains (needed_documents layer fs root.0) x
target_needed layer fs root e x p uri there need place target means own =
    referred_needed layer fs root e x there need
    (Contains-append_left (referred_in layer e.1) (referred_by_seen layer (further_in fs e.0)) x.0
    (in_joined (λ u. option_to_list (document_under layer u)) (flat_map targets (places e.1)) uri x.0 (in_joined targets (places e.1) p uri place target) (listed (document_under layer uri) x.0 means)))
    own

-- and so is the one that a target of its further place means
pub seen_needed : (layer : Layer) (fs : Further) (root e x : ℕ × Document) (s : Seen) (uri : List ℕ) → Contains (counted_documents 0 layer) root → Contains (needed_documents layer fs root.0) e → Contains (further_in fs e.0) s → Contains (targets_from s.base s.value) uri
    → document_under layer uri ≡ Some x.0 → Contains (counted_documents 0 layer) x → Contains (needed_documents layer fs root.0) x
seen_needed layer fs root e x s uri there need place target means own =
    referred_needed layer fs root e x there need
    (Contains-append_right (referred_in layer e.1) (referred_by_seen layer (further_in fs e.0)) x.0
    (in_joined (λ u. option_to_list (document_under layer u)) (flat_map (λ t. targets_from t.base t.value) (further_in fs e.0)) uri x.0 (in_joined (λ t. targets_from t.base t.value) (further_in fs e.0) s uri place target) (listed (document_under layer uri) x.0 means)))
    own
