-- A URI that something has a name under means a place.
use Rattle.std.proofs.Common.{◌≡◌, ℕ, Bool, true, false, ◌&&◌, cond, List, [], ◌∷◌, ◌++◌, filter, flat_map, Option, Some, None, is_some, option_and_then, Result, Ok, Err, ◌⊎◌, inl, inr, ⊎_elim, refl, sym, ap, subst, ◌∙◌, append_assoc, bytes_eq, arith}
use Rattle.std.specs.List.{Contains, last_or}
use Rattle.std.specs.Option.{option_map_or, option_or, ok_or}
use Rattle.std.specs.Result.{result_ok}
use Rattle.std.proofs.lemmas.List.{append-nil}
use Rattle.std.proofs.lemmas.List.Elements.{Contains-append_right, Contains-append_cases}
use Rattle.std.proofs.lemmas.Slice.Eq.{bytes_eq-Decides}
use Rattle.serde_json.specs.Data.{depth}
use Rattle.ref_draft.specs.Children.{walked_children}
use Rattle.ref_uri.specs.Targets.{Refusal}
use Rattle.ref_definitions.specs.World.{Document, Layer, World}
use Rattle.ref_definitions.specs.Places.{Place, root, child_place, children_with, levels_below, places, identifier_of, base_within}
use Rattle.ref_definitions.specs.Descent.{AreChildren}
use Rattle.ref_definitions.specs.Resources.{resources_in, resources, last_under, own_uri, meant_place}
use Rattle.ref_definitions.specs.Anchors.{Named, named_under, named_at, names_in, names, last_named, named_entry, named_by_identifier, not_named, anchor}
use Rattle.ref_definitions.proofs.Alone.{bears}
use Rattle.ref_definitions.proofs.Appending.{meanings_stay_below}
use Rattle.ref_definitions.proofs.Descent.{places_descend}
use Rattle.ref_index.proofs.Looking.{last_passes, not_there}
use Rattle.ref_definitions.proofs.Lists.{in_joined, first_or_later, none_in_nothing, in_mapped, in_one_of}

-- ---- the base of each place identifies one

-- a place of the layer is under the URI
abbrev Bears : Layer → List ℕ → Type 0
Bears layer uri = (q : Place) × Contains (resources layer) (uri, q)

-- so it is of the base of a place, where it has one
abbrev HasKnownBase : Layer → Place → Type 0
HasKnownBase layer p = (uri : List ℕ) → p.base ≡ Ok uri → Bears layer uri

child_base : (p x : Place) (base : List ℕ) → Contains (children_with (Ok base) p) x → x.base ≡ base_within base (identifier_of x)
child_base p x base there =
    let (c, own_child, same) = in_mapped (child_place p.path base) (walked_children p.draft p.value) x there in
    subst (λ (y : Place). y.base ≡ base_within base (identifier_of y)) same refl

with_identifier : (layer : Layer) (d : Document) (x : Place) (base : List ℕ) (id : Option (List ℕ)) → identifier_of x ≡ id → Contains layer d → Contains (places d) x
    → x.base ≡ base_within base id → Bears layer base → HasKnownBase layer x
with_identifier layer d x base (Some id) has own there based known = λ uri at. (x, bears layer d x uri own there (inr (ap is_some has)) at)
with_identifier layer d x base None has own there based known = λ uri at. (let e : Ok base ≡ Ok uri = sym based ∙ at in let same : base ≡ uri = cc in subst (Bears layer) same known)

child_known : (layer : Layer) (d : Document) (p x : Place) (base : Result (List ℕ) Refusal) → p.base ≡ base → Contains layer d → HasKnownBase layer p → Contains (children_with base p) x → Contains (places d) x
    → HasKnownBase layer x
child_known layer d p x (Ok base) is own known child there =
    with_identifier layer d x base (identifier_of x) refl own there (child_base p x base child) (known base is)
child_known layer d p x (Err refusal) is own known child there = absurd (none_in_nothing x child)

each_known : (layer : Layer) (d : Document) (before rest : List Place) → Contains layer d → AreChildren before rest → ((x : Place) → Contains (before ++ rest) x → Contains (places d) x)
    → ((x : Place) → Contains before x → HasKnownBase layer x) → (x : Place) → Contains (before ++ rest) x → HasKnownBase layer x
each_known layer d before [] own children within known x there = known x (subst (λ ps. Contains ps x) (append-nil before) there)
each_known layer d before (y ∷ rest) own children within known x there =
    let longer = append_assoc before (y ∷ []) rest in
    let here : HasKnownBase layer y =
    child_known layer d children.0.parent y children.0.parent.base refl own (known children.0.parent children.0.comes_before) children.0.child
    (within y (Contains-append_right before (y ∷ rest) y (0, omega arith, refl))) in
    each_known layer d (before ++ y ∷ []) rest own children.1 (λ z at. within z (subst (λ ps. Contains ps z) longer at))
    (λ z at. ⊎_elim (λ earlier. known z earlier) (λ last. ⊎_elim (λ same. subst (HasKnownBase layer) same here) (λ none. absurd (none_in_nothing z none)) (first_or_later y [] z last)) (Contains-append_cases before (y ∷ []) z at))
    x (subst (λ ps. Contains ps x) (sym longer) there)

root_known : (layer : Layer) (d : Document) → Contains layer d → HasKnownBase layer (root d)
root_known layer d own = λ uri at. (root d, bears layer d (root d) uri own (0, omega arith, refl) (inl refl) at)

base_known : (layer : Layer) (d : Document) (p : Place) → Contains layer d → Contains (places d) p → HasKnownBase layer p
base_known layer d p own there =
    each_known layer d (root d ∷ []) (levels_below (depth d.tree) (root d ∷ [])) own (places_descend d (depth d.tree)) (λ x at. at)
    (λ x at. ⊎_elim (λ same. subst (HasKnownBase layer) same (root_known layer d own)) (λ none. absurd (none_in_nothing x none)) (first_or_later (root d) [] x at))
    p there

-- ---- names

under_that : (uri : List ℕ) (p : Place) (n : Named) → Contains (named_under uri p) n → uri ≡ n.uri
under_that uri p n there = (let (a, own_anchor, same) = in_mapped _ _ n there in ap (λ (m : Named). m.uri) same)

named_known : (layer : Layer) (p : Place) (n : Named) (base : Result (List ℕ) Refusal) → p.base ≡ base → HasKnownBase layer p → Contains (option_map_or (λ b. named_under b p) (result_ok base) []) n → Bears layer n.uri
named_known layer p n (Ok base) is known there = subst (Bears layer) (under_that base p n there) (known base is)
named_known layer p n (Err refusal) is known there = absurd (none_in_nothing n there)

name_known : (layer : Layer) (n : Named) → Contains (names layer) n → Bears layer n.uri
name_known layer n there =
    let (d, own, of) = in_one_of names_in layer n there in
    ⊎_elim
    (λ of_root. subst (Bears layer) (under_that d.uri (root d) n of_root) (root d, in_joined resources_in layer d (d.uri, root d) own (0, omega arith, refl)))
    (λ of_place. let (p, are_at_paths, at) = in_one_of named_at (places d) n of_place in named_known layer p n p.base refl (base_known layer d p own are_at_paths) at)
    (Contains-append_cases (named_under d.uri (root d)) (flat_map named_at (places d)) n of)

last_is_there : {X : Type 0} (test : X → Bool) (xs : List X) (o : Option X) (a : X) → last_or o (filter test xs) ≡ Some a → (o ≡ Some a) ⊎ Contains xs a
last_is_there test [] o a is = inl is
last_is_there test (x ∷ xs) o a is = by_test (test x) (last_is_there test xs (Some x) a) (last_is_there test xs o a) is
  where
    later : Contains xs a → (o ≡ Some a) ⊎ Contains (x ∷ xs) a
    later at = inr (Contains-append_right (x ∷ []) xs a at)

    by_test : (b : Bool) → (last_or (Some x) (filter test xs) ≡ Some a → (Some x ≡ Some a) ⊎ Contains xs a) → (last_or o (filter test xs) ≡ Some a → (o ≡ Some a) ⊎ Contains xs a)
        → last_or o (cond b (x ∷ filter test xs) (filter test xs)) ≡ Some a → (o ≡ Some a) ⊎ Contains (x ∷ xs) a
    by_test true with_it without found = ⊎_elim (λ same. inr (0, omega arith, (let e : x ≡ a = cc in e))) later (with_it found)
    by_test false with_it without found = ⊎_elim (λ same. inl same) later (without found)

first_true : (a b : Bool) → (a && b) ≡ true → a ≡ true
first_true true b is = refl
first_true false b is = cc

last_named_bears : (layer : Layer) (uri name : List ℕ) (n : Named) → last_named uri name (names layer) ≡ Some n → Bears layer uri
last_named_bears layer uri name n is =
    let test = λ (e : Named). bytes_eq e.uri uri && bytes_eq e.name name in
    let passes = last_passes test (names layer) None (λ x no. cc) n is in
    let same = (bytes_eq-Decides n.uri uri).0 (first_true (bytes_eq n.uri uri) (bytes_eq n.name name) passes) in
    ⊎_elim (λ no. cc) (λ there. subst (Bears layer) same (name_known layer n there)) (last_is_there test (names layer) None n is)

there_or : (layer : Layer) (world : World) (uri : List ℕ) (found : Option (List ℕ × Place)) → last_under uri (resources layer) ≡ found → Bears layer uri → is_some (option_map_or (λ e. Some e.1) found (meant_place world uri)) ≡ true
there_or layer world uri (Some e) is known = refl
there_or layer world uri None is known = absurd (not_there (λ e. bytes_eq e.0 uri) (resources layer) (uri, known.0) ((bytes_eq-Decides uri uri).1 refl) is known.1)

bears_means : (layer : Layer) (world : World) (uri : List ℕ) → Bears layer uri → is_some (meant_place (layer ∷ world) uri) ≡ true
bears_means layer world uri known =
    subst (λ found. is_some (option_map_or (λ e. Some e.1) found (meant_place world uri)) ≡ true) refl (there_or layer world uri (last_under uri (resources layer)) refl known)

named_means : (world : World) (uri name : List ℕ) (n : Named) → named_entry world uri name ≡ Some n → is_some (meant_place world uri) ≡ true
named_means [] uri name n is = cc
named_means (layer ∷ world) uri name n is = by_last (last_named uri name (names layer)) refl (named_means world uri name n) is
  where
    by_last : (o : Option Named) → last_named uri name (names layer) ≡ o → (named_entry world uri name ≡ Some n → is_some (meant_place world uri) ≡ true)
        → option_or o (named_entry world uri name) ≡ Some n → is_some (meant_place (layer ∷ world) uri) ≡ true
    by_last (Some m) at behind found = bears_means layer world uri (last_named_bears layer uri name m at)
    by_last None at behind found = meanings_stay_below layer world uri (behind found)

identified : (world : World) (name : List ℕ) (n : Named) (place : Option Place) → option_and_then (λ own. named_entry world own name) (option_and_then own_uri place) ≡ Some n → is_some place ≡ true
identified world name n None is = cc
identified world name n (Some p) is = refl

-- where a name under a URI means something, the URI means a place
pub anchor_means : (world : World) (uri name : List ℕ) (n : Named) → result_ok (anchor world uri name) ≡ Some n → is_some (meant_place world uri) ≡ true
unfolding anchor
anchor_means world uri name n is = by_named (named_entry world uri name) refl is
  where
    by_named : (o : Option Named) → named_entry world uri name ≡ o → result_ok (ok_or (option_or o (named_by_identifier world uri name)) (not_named name)) ≡ Some n → is_some (meant_place world uri) ≡ true
    by_named (Some m) at found = named_means world uri name m at
    by_named None at found = by_identifier (named_by_identifier world uri name) refl found
      where
        by_identifier : (o : Option Named) → named_by_identifier world uri name ≡ o → result_ok (ok_or o (not_named name)) ≡ Some n → is_some (meant_place world uri) ≡ true
        by_identifier (Some m) at found = identified world name m (meant_place world uri) at
        by_identifier None at found = cc
