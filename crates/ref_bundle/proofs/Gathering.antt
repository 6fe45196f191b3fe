-- The places of documents, gathered document by document.
use Rattle.std.specs.Prelude.{nat_lt, slice_get, MatchOption}
use Rattle.std.proofs.Common.{◌≡◌, ℕ, zero, suc, ◌+◌, ◌≤◌, false, cond, List, [], ◌∷◌, ◌++◌, map, flat_map, length, drop, Option, None, Some, option_map, option_and_then, Vec, Global, refl, ap, sym, subst, ◌∙◌, append_assoc, append-nil, arith, true≢false}
use Rattle.std.specs.List.{AllByRecursion, Contains}
use Rattle.std.specs.Option.{option_to_list}
use Rattle.std.proofs.lemmas.Bool.{lt-ltb, ltb-true}
use Rattle.std.proofs.lemmas.List.{map-append}
use Rattle.std.proofs.lemmas.Option.{slice_get-map}
use Rattle.std.proofs.lemmas.List.Concat.{flat_map-append}
use Rattle.ref_paths.specs.Path.{value_at}
use Rattle.ref_definitions.specs.World.{Document, Layer}
use Rattle.ref_definitions.specs.Places.{Place, places, root, levels_below}
use Rattle.serde_json.specs.Data.{depth}
use Rattle.ref_definitions.specs.Listing.{listed_place, listed_from, local_places}
use Rattle.ref_bundle.specs.Needed.{counted_documents, Seen, further_in}
use Rattle.ref_bundle.specs.inner.Seen.{see, seen_in, see_listed, all_seen, put_last, put_place, gathered_places, numbered_document, HasPlaces}
use Rattle.ref_bundle.specs.Saying.{seen_spot, further_of}
use Rattle.ref_bundle.proofs.Numbers.{one_test}
use Rattle.ref_bundle.specs.declared.own.Own.{Own}
use Rattle.ref_bundle.specs.declared.own.Spot.{Spot}
use Rattle.ref_definitions.proofs.Lists.{at_first, later_in}

-- ---- groups

pub put_last_is : {X : Type 0} (gs : List (List X)) (g : List X) (x : X) → put_last (gs ++ g ∷ []) x ≡ gs ++ (g ++ x ∷ []) ∷ []
put_last_is [] g x = refl
put_last_is (h ∷ []) g x = refl
put_last_is (h ∷ i ∷ gs) g x = ap (λ l. h ∷ l) (put_last_is (i ∷ gs) g x)

pub gathered_append : (gs : List (List Seen)) (xs ys : List Seen) → gathered_places gs (xs ++ ys) ≡ gathered_places (gathered_places gs xs) ys
gathered_append gs [] ys = refl
gathered_append gs (x ∷ xs) ys = gathered_append (put_place gs x) xs ys

push_long : {X : Type 0} (xs : List X) (x : X) → length (xs ++ x ∷ []) ≡ suc (length xs)
push_long [] x = refl
push_long (y ∷ xs) x = ap suc (push_long xs x)

not_below : (a b : ℕ) → b ≤ a → nat_lt a b ≡ false
not_below a b above = one_test (nat_lt a b) false (λ is. let below = ltb-true a b is in absurd (omega (arith, below, above))) (λ is. absurd (true≢false (sym is)))

new_group : (gs : List (List Seen)) (s : Seen) → length gs ≡ s.document → put_place gs s ≡ gs ++ (s ∷ []) ∷ []
new_group gs s long = ap (λ b. cond b (put_last gs s) (gs ++ (s ∷ []) ∷ [])) (not_below s.document (length gs) (omega (arith, long)))

same_group : (gs : List (List Seen)) (g : List Seen) (s : Seen) → length gs ≡ s.document → put_place (gs ++ g ∷ []) s ≡ gs ++ (g ++ s ∷ []) ∷ []
same_group gs g s long =
    let more = push_long gs g in
    ap (λ b. cond b (put_last (gs ++ g ∷ []) s) ((gs ++ g ∷ []) ++ (s ∷ []) ∷ [])) (lt-ltb s.document (length (gs ++ g ∷ [])) (omega (arith, long, more)))
    ∙ put_last_is gs g s

rest_of_group : (gs : List (List Seen)) (g : List Seen) (k : ℕ) (ps : List Place) → length gs ≡ k → gathered_places (gs ++ g ∷ []) (map (see k) ps) ≡ gs ++ (g ++ map (see k) ps) ∷ []
rest_of_group gs g k [] long = ap (λ l. gs ++ l ∷ []) (sym (append-nil g))
rest_of_group gs g k (p ∷ ps) long =
    ap (λ l. gathered_places l (map (see k) ps)) (same_group gs g (see k p) long)
    ∙ rest_of_group gs (g ++ see k p ∷ []) k ps long
    ∙ ap (λ l. gs ++ l ∷ []) (append_assoc g (see k p ∷ []) (map (see k) ps))

one_group : (gs : List (List Seen)) (k : ℕ) (d : Document) → length gs ≡ k → gathered_places gs (seen_in (k, d)) ≡ gs ++ seen_in (k, d) ∷ []
one_group gs k d long =
    ap (λ l. gathered_places l (map (see k) (levels_below (depth d.tree) (root d ∷ [])))) (new_group gs (see k (root d)) long)
    ∙ rest_of_group gs (see k (root d) ∷ []) k (levels_below (depth d.tree) (root d ∷ [])) long

all_groups : (gs : List (List Seen)) (k : ℕ) (ds : Layer) → length gs ≡ k → gathered_places gs (flat_map seen_in (counted_documents k ds)) ≡ gs ++ map seen_in (counted_documents k ds)
all_groups gs k [] long = sym (append-nil gs)
all_groups gs k (d ∷ ds) long =
    gathered_append gs (seen_in (k, d)) (flat_map seen_in (counted_documents (suc k) ds))
    ∙ ap (λ l. gathered_places l (flat_map seen_in (counted_documents (suc k) ds))) (one_group gs k d long)
    ∙ all_groups (gs ++ seen_in (k, d) ∷ []) (suc k) ds (push_long gs (seen_in (k, d)) ∙ ap suc long)
    ∙ append_assoc gs (seen_in (k, d) ∷ []) (map seen_in (counted_documents (suc k) ds))

-- ---- places that are listed

abbrev pub AreThere : Layer → Layer → Type 0
AreThere layer ds = (d : Document) (p : Place) → Contains ds d → Contains (places d) p → value_at d.tree p.path ≡ Some p.value

see_place : (layer : Layer) (k : ℕ) (d : Document) (p : Place) → slice_get layer k ≡ Some d → value_at d.tree p.path ≡ Some p.value → option_to_list (see_listed layer (listed_place k p)) ≡ see k p ∷ []
see_place layer k d p here is_at_path =
    ap (λ o. option_to_list (option_map (λ v. record { document = k; path = p.path; value = v; draft = p.draft; base = p.base }) o))
    (ap (option_and_then (λ (e : Document). value_at e.tree p.path)) here ∙ is_at_path)

see_places : (layer : Layer) (k : ℕ) (d : Document) (ps : List Place) → slice_get layer k ≡ Some d → ((p : Place) → Contains ps p → value_at d.tree p.path ≡ Some p.value)
    → all_seen layer (map (listed_place k) ps) ≡ map (see k) ps
see_places layer k d [] here are_there = refl
see_places layer k d (p ∷ ps) here are_there =
    ap (λ l. l ++ all_seen layer (map (listed_place k) ps)) (see_place layer k d p here (are_there p (at_first p ps)))
    ∙ ap (λ l. see k p ∷ l) (see_places layer k d ps here (λ q there. are_there q (later_in p ps q there)))

see_documents : (layer : Layer) (k : ℕ) (ds : Layer) → ((i : ℕ) → slice_get layer (k + i) ≡ slice_get ds i) → AreThere layer ds → all_seen layer (listed_from k ds) ≡ flat_map seen_in (counted_documents k ds)
see_documents layer k [] from are_there = refl
see_documents layer k (d ∷ ds) from are_there =
    let begin : k ≡ k + 0 = omega arith in
    let here : slice_get layer k ≡ Some d = ap (slice_get layer) begin ∙ from 0 in
    let next = λ (i : ℕ). (let e : suc k + i ≡ k + suc i = omega arith in ap (slice_get layer) e ∙ from (suc i)) in
    flat_map-append (λ l. option_to_list (see_listed layer l)) (map (listed_place k) (places d)) (listed_from (suc k) ds)
    ∙ ap (λ l. l ++ all_seen layer (listed_from (suc k) ds)) (see_places layer k d (places d) here (λ p there. are_there d p (at_first d ds) there))
    ∙ ap (λ l. seen_in (k, d) ++ l) (see_documents layer (suc k) ds next (λ e p among there. are_there e p (later_in d ds e among) there))

-- the places of a registry, gathered, are those of its documents
pub all_gathered : (layer : Layer) → AreThere layer layer → gathered_places [] (all_seen layer (local_places layer)) ≡ map seen_in (counted_documents 0 layer)
all_gathered layer are_there =
    ap (gathered_places []) (see_documents layer 0 layer (λ i. let e : 0 + i ≡ i = omega arith in ap (slice_get layer) e) are_there)
    ∙ all_groups [] 0 layer refl

-- ---- documents

abbrev pub items : Vec Spot Global → List Seen
items g = map seen_spot g.items

-- the further places of a document
pub further_there : (further : List (Vec Spot Global)) (n : ℕ) (spots : Vec Spot Global) → slice_get further n ≡ Some spots → further_in (further_of further) n ≡ map seen_spot spots.items
further_there [] n spots is = cc
further_there (g ∷ gs) zero spots is = ap items (let e : g ≡ spots = cc in e)
further_there (g ∷ gs) (suc n) spots is = further_there gs n spots is

pub further_missing : (further : List (Vec Spot Global)) (n : ℕ) → slice_get further n ≡ None → further_in (further_of further) n ≡ []
further_missing [] n is = refl
further_missing (g ∷ gs) zero is = cc
further_missing (g ∷ gs) (suc n) is = further_missing gs n is

-- some documents were added, and the places of the others are left
pub record IsPartly (layer : Layer) (rest : List (List Seen)) (owns : List Own) : Type 0 where
  pub order : map numbered_document owns ++ counted_documents (length owns) (drop (length owns) layer) ≡ counted_documents 0 layer
  pub left : rest ≡ map seen_in (counted_documents (length owns) (drop (length owns) layer))
  pub have : AllByRecursion HasPlaces owns

all_and : (os : List Own) (o : Own) → AllByRecursion HasPlaces os → HasPlaces o → AllByRecursion HasPlaces (os ++ o ∷ [])
all_and [] o all one = (one, tt)
all_and (p ∷ os) o all one = (all.0, all_and os o all.1 one)

dropped : {X : Type 0} (xs : List X) (k : ℕ) (x : X) (ys : List X) → drop k xs ≡ x ∷ ys → (slice_get xs k ≡ Some x) × (drop (suc k) xs ≡ ys)
dropped [] zero x ys is = cc
dropped [] (suc k) x ys is = cc
dropped (z ∷ xs) zero x ys is = (let e : z ≡ x = cc in ap (λ y. Some y) e, let f : xs ≡ ys = cc in f)
dropped (z ∷ xs) (suc k) x ys is = dropped xs k x ys is

abbrev pub Adds : Layer → List Own → Vec Spot Global → List Own → Document → Type 0
Adds layer owns ps new d = (o : Own) × (new ≡ owns ++ o ∷ []) × (numbered_document o ≡ (length owns, d)) × (o.places ≡ ps)

more_of : (layer : Layer) (g : List Seen) (rest : List (List Seen)) (owns new : List Own) (ps : Vec Spot Global) (left : Layer) → drop (length owns) layer ≡ left
    → IsPartly layer (g ∷ rest) owns → MatchOption (slice_get layer (length owns)) (new ≡ owns) (Adds layer owns ps new) → items ps ≡ g → IsPartly layer rest new
more_of layer g rest owns new ps [] is partly added same =
    absurd (let e : g ∷ rest ≡ [] = partly.left ∙ ap (λ l. map seen_in (counted_documents (length owns) l)) is in let f : ⊥ = cc in f)
more_of layer g rest owns new ps (d ∷ ds) is partly added same =
    let k = length owns in
    let at = dropped layer k d ds is in
    let adds : Adds layer owns ps new d = subst (λ o. MatchOption o (new ≡ owns) (Adds layer owns ps new)) at.0 added in
    let o = adds.0 in
    let groups : g ∷ rest ≡ seen_in (k, d) ∷ map seen_in (counted_documents (suc k) ds) = partly.left ∙ ap (λ l. map seen_in (counted_documents k l)) is in
    let head : g ≡ seen_in (k, d) = cc in
    let tail : rest ≡ map seen_in (counted_documents (suc k) ds) = cc in
    let long : length new ≡ suc k = ap length adds.1 ∙ push_long owns o in
    let behind : drop (length new) layer ≡ ds = ap (λ n. drop n layer) long ∙ at.1 in
    let has : HasPlaces o = ap items adds.3 ∙ same ∙ head ∙ ap seen_in (sym adds.2) in
    record {
      order =
          ap (λ l. map numbered_document l ++ counted_documents (length new) (drop (length new) layer)) adds.1
          ∙ ap (λ l. l ++ counted_documents (length new) (drop (length new) layer)) (map-append numbered_document owns (o ∷ []))
          ∙ ap (λ l. (map numbered_document owns ++ numbered_document o ∷ []) ++ counted_documents (length new) l) behind
          ∙ ap (λ n. (map numbered_document owns ++ numbered_document o ∷ []) ++ counted_documents n ds) long
          ∙ ap (λ e. (map numbered_document owns ++ e ∷ []) ++ counted_documents (suc k) ds) adds.2
          ∙ append_assoc (map numbered_document owns) ((k, d) ∷ []) (counted_documents (suc k) ds)
          ∙ ap (λ l. map numbered_document owns ++ counted_documents k l) (sym is)
          ∙ partly.order;
      left = tail ∙ ap (λ l. map seen_in (counted_documents (suc k) l)) (sym behind) ∙ ap (λ n. map seen_in (counted_documents n (drop (length new) layer))) (sym long);
      have = subst (AllByRecursion HasPlaces) (sym adds.1) (all_and owns o partly.have has);
    }

-- with the places of one more
pub partly_more : (layer : Layer) (g : List Seen) (rest : List (List Seen)) (owns new : List Own) (ps : Vec Spot Global)
    → IsPartly layer (g ∷ rest) owns → MatchOption (slice_get layer (length owns)) (new ≡ owns) (Adds layer owns ps new) → items ps ≡ g → IsPartly layer rest new
partly_more layer g rest owns new ps = more_of layer g rest owns new ps (drop (length owns) layer) refl

no_more : (k : ℕ) (ds : Layer) → [] ≡ map seen_in (counted_documents k ds) → counted_documents k ds ≡ []
no_more k [] is = refl
no_more k (d ∷ ds) is = cc

pub partly_all : (layer : Layer) (owns : List Own) → IsPartly layer [] owns → map numbered_document owns ≡ counted_documents 0 layer
partly_all layer owns partly =
    sym (append-nil (map numbered_document owns)) ∙ ap (λ l. map numbered_document owns ++ l) (sym (no_more (length owns) (drop (length owns) layer) partly.left)) ∙ partly.order

pub document_at : {X : Type 0} (f : X → Document) (docs : List X) (layer : Layer) (n : ℕ) (o : Option X) → map f docs ≡ layer → slice_get docs n ≡ o → slice_get layer n ≡ option_map f o
document_at f docs layer n o is at = ap (λ l. slice_get l n) (sym is) ∙ slice_get-map f docs n ∙ ap (option_map f) at
