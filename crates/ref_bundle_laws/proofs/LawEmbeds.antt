-- A bundle embeds exactly what is needed, each document once, in the order of documents.
use Rattle.std.proofs.Common.{◌≡◌, ℕ, zero, suc, ◌+◌, ◌<◌, Bool, true, false, not, cond, ◌==◌, eqb-true, List, [], ◌∷◌, flat_map, map, filter, length, get_or, Option, Some, None, slice_get, ⊎_elim, refl, sym, ap, subst, ◌∙◌, true≢false, arith}
use Rattle.std.specs.List.{Contains}
use Rattle.std.specs.List.Sorted.{IsStrictlyIncreasing}
use Rattle.std.specs.Option.{option_map_or, option_to_list}
use Rattle.std.proofs.lemmas.Bool.{or_cases}
use Rattle.std.proofs.lemmas.List.Elements.{Contains-append_cases}
use Rattle.std.proofs.lemmas.List.Kept.{IsStrictlyIncreasing-filter}
use Rattle.ref_definitions.specs.World.{Document, Layer, World}
use Rattle.ref_definitions.specs.Places.{places}
use Rattle.ref_bundle.specs.Needed.{Further, further_in, counted_documents, document_under, targets_from, targets, referred_in, referred_by_seen, referred_of, referred_from, is_among, numbers, with_referred, reached_documents, numbers_of_needed, needed_documents}
use Rattle.ref_bundle.specs.Bundle.{Bundle, Embedded, to_embed, embedded_document, bundle_of}
use Rattle.ref_bundle_laws.specs.Kept.{IsBundle, IsNeeded, root_is, referred_by, EmbedsNeeded}
use Rattle.ref_bundle_laws.proofs.LawNeeded.{document_bears}
use Rattle.ref_bundle_laws.proofs.LawClosed.{is_there, there_is, or_second, kept_in, passes_kept, IsPicked, picked_after, picked_begun, next_test, stays_needed, in_numbers, root_begun, settled}
use Rattle.ref_bundle_laws.proofs.LawBundled.{none_mapped, agree}
use Rattle.ref_bundle_laws.proofs.LawFacts.{made, root_counted}
use Rattle.ref_definitions.proofs.Lists.{in_joined, in_one_of}

-- ---- the order

number_at : (k : ℕ) (ds : Layer) (i : ℕ) → i < length (map (λ (e : ℕ × Document). e.0) (counted_documents k ds)) → get_or (map (λ (e : ℕ × Document). e.0) (counted_documents k ds)) i 0 ≡ i + k
number_at k [] i less = absurd (omega (arith, less))
number_at k (d ∷ ds) zero less = omega arith
number_at k (d ∷ ds) (suc i) less = number_at (suc k) ds i (omega (arith, less)) ∙ (let e : i + suc k ≡ suc i + k = omega arith in e)

numbers_rise : (layer : Layer) → IsStrictlyIncreasing (numbers layer)
numbers_rise layer i less =
    let here = number_at 0 layer i (omega (arith, less)) in
    let next = number_at 0 layer (i + 1) less in
    omega (arith, here, next)

needed_picked : (layer : Layer) (fs : Further) (n : ℕ) → IsPicked layer (numbers_of_needed layer fs n)
needed_picked layer fs n = picked_after layer fs (length layer) (filter (λ m. m == n) (numbers layer)) (picked_begun layer n)

needed_rise : (layer : Layer) (fs : Further) (n : ℕ) → IsStrictlyIncreasing (numbers_of_needed layer fs n)
needed_rise layer fs n =
    let picked = needed_picked layer fs n in
    subst IsStrictlyIncreasing (sym picked.are) (IsStrictlyIncreasing-filter picked.test (numbers layer) (numbers_rise layer))

-- ---- what is needed is among the numbers

listed_as : (o : Option ℕ) (k : ℕ) → Contains (option_to_list o) k → o ≡ Some k
listed_as None k there = absurd (omega (arith, there.1))
listed_as (Some m) k (zero, less, is) = ap (λ x. Some x) is
listed_as (Some m) k (suc i, less, is) = absurd (omega (arith, less))

meant_number : (layer : Layer) (uris : List (List ℕ)) (k : ℕ) → Contains (flat_map (λ uri. option_to_list (document_under layer uri)) uris) k → Contains (numbers layer) k
meant_number layer uris k there =
    let of_uri = in_one_of (λ uri. option_to_list (document_under layer uri)) uris k there in
    let bears = document_bears layer of_uri.0 k (listed_as (document_under layer of_uri.0) k of_uri.2) in
    subst (Contains (numbers layer)) bears.2 (in_numbers layer bears.0 bears.3.document)

referred_number : (layer : Layer) (fs : Further) (n : ℕ) (o : Option Document) (k : ℕ) → Contains (option_map_or (λ d. referred_of layer fs (n, d)) o []) k → Contains (numbers layer) k
referred_number layer fs n None k there = absurd (omega (arith, there.1))
referred_number layer fs n (Some d) k there =
    ⊎_elim
    (meant_number layer (flat_map targets (places d)) k)
    (meant_number layer (flat_map (λ s. targets_from s.base s.value) (further_in fs n)) k)
    (Contains-append_cases (referred_in layer d) (referred_by_seen layer (further_in fs n)) k there)

closed : (layer : Layer) (fs : Further) (x : ℕ × Document) → Contains (counted_documents 0 layer) x → (m k : ℕ) → Contains (numbers_of_needed layer fs x.0) m → Contains (referred_from layer fs m) k → Contains (numbers_of_needed layer fs x.0) k
closed layer fs x own m k there refers =
    let in_all : Contains (flat_map (referred_from layer fs) (numbers_of_needed layer fs x.0)) k = in_joined (referred_from layer fs) (numbers_of_needed layer fs x.0) m k there refers in
    subst (λ ns. Contains ns k) (sym (settled layer fs x own))
    (kept_in (next_test layer fs (numbers_of_needed layer fs x.0)) (numbers layer) k (referred_number layer fs m (slice_get layer m) k refers)
    (or_second (is_among (numbers_of_needed layer fs x.0) k) (is_among (flat_map (referred_from layer fs) (numbers_of_needed layer fs x.0)) k) (is_there (flat_map (referred_from layer fs) (numbers_of_needed layer fs x.0)) k in_all)))

all_needed : (layer : Layer) (fs : Further) (x : ℕ × Document) → Contains (counted_documents 0 layer) x → (m : ℕ) → IsNeeded layer fs x.0 m → Contains (numbers_of_needed layer fs x.0) m
all_needed layer fs x own m root_is = stays_needed layer fs (length layer) (filter (λ k. k == x.0) (numbers layer)) x.0 (in_numbers layer x own) (root_begun layer x own)
all_needed layer fs x own m (referred_by by next need refers) = closed layer fs x own by next (all_needed layer fs x own by need) refers

-- ---- and nothing else

only_next : (layer : Layer) (fs : Further) (n : ℕ) (some : List ℕ) → ((m : ℕ) → Contains some m → IsNeeded layer fs n m) → (m : ℕ) → Contains (with_referred layer fs some) m → IsNeeded layer fs n m
only_next layer fs n some each m there =
    let passes = (passes_kept (next_test layer fs some) (numbers layer) m there).1 in
    ⊎_elim
    (λ among. each m (there_is some m among))
    (λ more. let of_one = in_one_of (referred_from layer fs) some m (there_is (flat_map (referred_from layer fs) some) m more) in referred_by of_one.0 m (each of_one.0 of_one.1) of_one.2)
    (or_cases (is_among some m) (is_among (flat_map (referred_from layer fs) some) m) passes)

only_reached : (layer : Layer) (fs : Further) (n rounds : ℕ) (some : List ℕ) → ((m : ℕ) → Contains some m → IsNeeded layer fs n m) → (m : ℕ) → Contains (reached_documents layer fs rounds some) m → IsNeeded layer fs n m
only_reached layer fs n zero some each m there = each m there
only_reached layer fs n (suc rounds) some each m there = only_reached layer fs n rounds (with_referred layer fs some) (only_next layer fs n some each) m there

only_needed : (layer : Layer) (fs : Further) (n m : ℕ) → Contains (numbers_of_needed layer fs n) m → IsNeeded layer fs n m
only_needed layer fs n m there =
    only_reached layer fs n (length layer) (filter (λ k. k == n) (numbers layer))
    (λ k own. subst (IsNeeded layer fs n) (sym (eqb-true k n (passes_kept (λ j. j == n) (numbers layer) k own).1)) root_is) m there

-- ---- the list of what is embedded

mapped_filter : {X Y : Type 0} (f : X → Y) (test : Y → Bool) (xs : List X) → map f (filter (λ x. test (f x)) xs) ≡ filter test (map f xs)
mapped_filter f test [] = refl
mapped_filter f test (x ∷ xs) = by_test (test (f x)) ∙ ap (λ ys. cond (test (f x)) (f x ∷ ys) ys) (mapped_filter f test xs)
  where
    by_test : (b : Bool) → map f (cond b (x ∷ filter (λ y. test (f y)) xs) (filter (λ y. test (f y)) xs)) ≡ cond b (f x ∷ map f (filter (λ y. test (f y)) xs)) (map f (filter (λ y. test (f y)) xs))
    by_test true = refl
    by_test false = refl

same_test : (layer : Layer) (ns : List ℕ) (picked : IsPicked layer ns) (m : ℕ) → Contains (numbers layer) m → is_among ns m ≡ picked.test m
same_test layer ns picked m own = by_both (picked.test m) (is_among ns m) refl refl
  where
    by_both : (b c : Bool) → picked.test m ≡ b → is_among ns m ≡ c → c ≡ b
    by_both true true passes among = refl
    by_both true false passes among = absurd (true≢false (sym (is_there ns m (subst (λ l. Contains l m) (sym picked.are) (kept_in picked.test (numbers layer) m own passes))) ∙ among))
    by_both false true passes among = absurd (true≢false (sym (passes_kept picked.test (numbers layer) m (subst (λ l. Contains l m) picked.are (there_is ns m among))).1 ∙ passes))
    by_both false false passes among = refl

needed_again : (layer : Layer) (fs : Further) (n : ℕ) → filter (is_among (numbers_of_needed layer fs n)) (numbers layer) ≡ numbers_of_needed layer fs n
needed_again layer fs n =
    let picked = needed_picked layer fs n in
    agree (is_among (numbers_of_needed layer fs n)) picked.test (numbers layer) (same_test layer (numbers_of_needed layer fs n) picked) ∙ sym picked.are

numbers_embedded : (layer : Layer) (fs : Further) (n : ℕ) → map (λ (e : ℕ × Document). e.0) (to_embed layer fs n) ≡ filter (λ m. not (m == n)) (numbers_of_needed layer fs n)
numbers_embedded layer fs n =
    let number = λ (e : ℕ × Document). e.0 in
    mapped_filter number (λ m. not (m == n)) (needed_documents layer fs n)
    ∙ ap (filter (λ m. not (m == n))) (mapped_filter number (is_among (numbers_of_needed layer fs n)) (counted_documents 0 layer) ∙ needed_again layer fs n)

documents_listed : (top : Document) (es : List (ℕ × Document)) → map (λ (e : Embedded). e.document) (map (embedded_document top.draft) es) ≡ map (λ (e : ℕ × Document). e.0) es
documents_listed top [] = refl
documents_listed top (e ∷ es) = ap (λ ns. e.0 ∷ ns) (documents_listed top es)

pub embeds_needed : (layer : Layer) (fs : Further) (parents : World) (n : ℕ) (top : Document) (bundle : Bundle) → IsBundle layer fs parents n top bundle → EmbedsNeeded layer fs n top bundle
embeds_needed layer fs parents n top bundle is =
    let both = made layer fs parents n top bundle is in
    let own = root_counted layer n top is.root in
    record {
      needed_numbers = record { in_order = needed_rise layer fs n; all = all_needed layer fs (n, top) own; only = only_needed layer fs n };
      embeds = ap (λ (b : Bundle). map (λ (e : Embedded). e.document) b.embedded) both.2 ∙ documents_listed top (to_embed layer fs n) ∙ numbers_embedded layer fs n;
      alone = λ none. ap (λ (b : Bundle). b.value) both.2 ∙ ap (λ es. (bundle_of top es).value) (none_mapped (embedded_document top.draft) (to_embed layer fs n) (sym (ap (λ (b : Bundle). b.embedded) both.2) ∙ none));
    }
