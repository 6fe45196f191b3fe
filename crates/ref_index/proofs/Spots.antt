-- What documents have, with the numbers of the documents and without them.
use Rattle.std.proofs.Common.{◌≡◌, ℕ, suc, ◌+◌, Bool, true, false, ◌||◌, ◌&&◌, cond, List, [], ◌∷◌, ◌++◌, map, filter, flat_map, length, Option, Some, None, option_map, refl, sym, ap, ◌∙◌, append-nil, append_assoc, bytes_eq, arith}
use Rattle.std.specs.List.{list_any, last_or}
use Rattle.std.proofs.lemmas.List.{map-append}
use Rattle.ref_definitions.specs.World.{Document, Layer}
use Rattle.ref_definitions.specs.Places.{Place}
use Rattle.ref_definitions.specs.Resources.{resources_in, resources, last_under}
use Rattle.ref_definitions.specs.Anchors.{Named, names_in, names, last_named}
use Rattle.ref_index.specs.Spots.{with_number, numbered_from, numbered_resources, numbered_names, last_resource, last_name}

-- ---- one more

pub numbered_append : {X : Type 0} (number : ℕ) (xs ys : List X) → with_number number (xs ++ ys) ≡ with_number number xs ++ with_number number ys
numbered_append number xs ys = map-append (λ x. (number, x)) xs ys

-- numbered lists after others, one of them in two parts
pub numbered_past : {X : Type 0} (number : ℕ) (front : List (ℕ × X)) (xs ys : List X) → (front ++ with_number number xs) ++ with_number number ys ≡ front ++ with_number number (xs ++ ys)
numbered_past number front xs ys = append_assoc front (with_number number xs) (with_number number ys) ∙ ap (λ l. front ++ l) (sym (numbered_append number xs ys))

-- a document after those of a layer
numbered_after : {X : Type 0} (has : Document → List X) (from number : ℕ) (layer : Layer) (d : Document) → number ≡ from + length layer
    → numbered_from has from layer ++ with_number number (has d) ≡ numbered_from has from (layer ++ d ∷ [])
numbered_after has from number [] d is =
    let same : number ≡ from = omega (arith, is) in
    ap (λ n. with_number n (has d)) same ∙ sym (append-nil (with_number from (has d)))
numbered_after has from number (e ∷ layer) d is =
    let next : number ≡ suc from + length layer = omega (arith, is) in
    append_assoc (with_number from (has e)) (numbered_from has (suc from) layer) (with_number number (has d))
    ∙ ap (λ l. with_number from (has e) ++ l) (numbered_after has (suc from) number layer d next)

pub numbered_more : {X : Type 0} (has : Document → List X) (layer : Layer) (d : Document)
    → numbered_from has 0 layer ++ with_number (length layer) (has d) ≡ numbered_from has 0 (layer ++ d ∷ [])
numbered_more has layer d = numbered_after has 0 (length layer) layer d (omega arith)

-- ---- without the numbers

dropped : {X : Type 0} (number : ℕ) (xs : List X) → map (λ (x : ℕ × X). x.1) (with_number number xs) ≡ xs
dropped number [] = refl
dropped number (x ∷ xs) = ap (λ l. x ∷ l) (dropped number xs)

pub unnumbered : {X : Type 0} (has : Document → List X) (number : ℕ) (layer : Layer) → map (λ (x : ℕ × X). x.1) (numbered_from has number layer) ≡ flat_map has layer
unnumbered has number [] = refl
unnumbered {X = X} has number (d ∷ ds) =
    map-append (λ (x : ℕ × X). x.1) (with_number number (has d)) (numbered_from has (suc number) ds)
    ∙ ap (λ l. l ++ map (λ (x : ℕ × X). x.1) (numbered_from has (suc number) ds)) (dropped number (has d)) ∙ ap (λ l. has d ++ l) (unnumbered has (suc number) ds)

any_mapped : {A B : Type 0} (f : A → B) (test : B → Bool) (xs : List A) → list_any test (map f xs) ≡ list_any (λ x. test (f x)) xs
any_mapped f test [] = refl
any_mapped f test (x ∷ xs) = ap (λ b. test (f x) || b) (any_mapped f test xs)

-- a URI is known of the numbered resources just where it is of the resources
pub known_alike : (uri : List ℕ) (layer : Layer) → list_any (λ (r : ℕ × (List ℕ × Place)). bytes_eq r.1.0 uri) (numbered_resources layer) ≡ list_any (λ (r : List ℕ × Place). bytes_eq r.0 uri) (resources layer)
known_alike uri layer =
    sym (any_mapped (λ (r : ℕ × (List ℕ × Place)). r.1) (λ (r : List ℕ × Place). bytes_eq r.0 uri) (numbered_resources layer))
    ∙ ap (list_any (λ (r : List ℕ × Place). bytes_eq r.0 uri)) (unnumbered resources_in 0 layer)

-- ---- the last one

last_by_test : {A B : Type 0} (f : A → B) (x : A) (passes : Bool) (ys : List B) (xs : List A) (o : Option A) → last_or (Some (f x)) ys ≡ option_map f (last_or (Some x) xs) → last_or (option_map f o) ys ≡ option_map f (last_or o xs)
    → last_or (option_map f o) (cond passes (f x ∷ ys) ys) ≡ option_map f (last_or o (cond passes (x ∷ xs) xs))
last_by_test f x true ys xs o here behind = here
last_by_test f x false ys xs o here behind = behind

last_mapped : {A B : Type 0} (f : A → B) (test : B → Bool) (xs : List A) (o : Option A) → last_or (option_map f o) (filter test (map f xs)) ≡ option_map f (last_or o (filter (λ x. test (f x)) xs))
last_mapped f test [] o = refl
last_mapped f test (x ∷ xs) o = last_by_test f x (test (f x)) (filter test (map f xs)) (filter (λ y. test (f y)) xs) o (last_mapped f test xs (Some x)) (last_mapped f test xs o)

pub last_resource_is : (uri : List ℕ) (layer : Layer) → last_under uri (resources layer) ≡ option_map (λ (r : ℕ × (List ℕ × Place)). r.1) (last_resource uri layer)
last_resource_is uri layer =
    ap (last_under uri) (sym (unnumbered resources_in 0 layer)) ∙ last_mapped (λ (r : ℕ × (List ℕ × Place)). r.1) (λ r. bytes_eq r.0 uri) (numbered_resources layer) None

pub last_name_is : (uri name : List ℕ) (layer : Layer) → last_named uri name (names layer) ≡ option_map (λ (n : ℕ × Named). n.1) (last_name uri name layer)
last_name_is uri name layer =
    ap (last_named uri name) (sym (unnumbered names_in 0 layer)) ∙ last_mapped (λ (n : ℕ × Named). n.1) (λ n. bytes_eq n.uri uri && bytes_eq n.name name) (numbered_names layer) None
