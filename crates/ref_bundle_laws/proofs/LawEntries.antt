-- What a URI that no place of a document has leaves of its entries and names: nothing.
use Rattle.std.proofs.Common.{◌≡◌, ℕ, zero, suc, Bool, true, false, cond, ◌&&◌, List, [], ◌∷◌, ◌++◌, flat_map, map, filter, Option, Some, None, option_map, option_and_then, Result, Ok, Err, refl, sym, ap, subst, ◌∙◌, bytes_eq}
use Rattle.std.specs.Bool.{⊤}
use Rattle.std.specs.List.{AllByRecursion}
use Rattle.std.specs.Option.{option_map_or, option_to_list}
use Rattle.std.specs.Result.{result_ok}
use Rattle.std.proofs.lemmas.List.Elements.{filter-append}
use Rattle.serde_json.specs.Data.{depth}
use Rattle.ref_paths.specs.Path.{Part}
use Rattle.ref_draft.specs.Anchors.{Kind, anchors}
use Rattle.ref_draft.specs.Children.{Walked, walked_children}
use Rattle.ref_uri.specs.Targets.{Refusal}
use Rattle.ref_draft.proofs.Lists.{all_append}
use Rattle.ref_definitions.specs.World.{Document}
use Rattle.ref_definitions.specs.Places.{Place, root, base_within, identifier_of, child_place, children_with, children_of, levels_below, places}
use Rattle.ref_definitions.specs.Resources.{resource_of, resources_in}
use Rattle.ref_definitions.specs.Anchors.{Named, named_under, named_at}
use Rattle.ref_definitions.proofs.Lists.{all_left, all_right}

-- ---- lists

pub filter_flat : {X A : Type 0} (test : A → Bool) (f : X → List A) (xs : List X) → filter test (flat_map f xs) ≡ flat_map (λ x. filter test (f x)) xs
filter_flat test f [] = refl
filter_flat test f (x ∷ xs) = filter-append test (f x) (flat_map f xs) ∙ ap (λ more. filter test (f x) ++ more) (filter_flat test f xs)

pub none_of : {X A : Type 0} (f : X → List A) (xs : List X) → AllByRecursion (λ x. f x ≡ []) xs → flat_map f xs ≡ []
none_of f [] none = refl
none_of f (x ∷ xs) none = ap (λ front. front ++ flat_map f xs) none.0 ∙ none_of f xs none.1

pub front_empty : {A : Type 0} (xs ys : List A) → xs ++ ys ≡ [] → xs ≡ []
front_empty [] ys is = refl
front_empty (x ∷ xs) ys is = absurd (let e : x ∷ (xs ++ ys) ≡ [] = is in cc)

pub back_empty : {A : Type 0} (xs ys : List A) → xs ++ ys ≡ [] → ys ≡ []
back_empty [] ys is = is
back_empty (x ∷ xs) ys is = absurd (let e : x ∷ (xs ++ ys) ≡ [] = is in cc)

pub each_none : {X A : Type 0} (f : X → List A) (xs : List X) → flat_map f xs ≡ [] → AllByRecursion (λ x. f x ≡ []) xs
each_none f [] is = tt
each_none f (x ∷ xs) is = (front_empty (f x) (flat_map f xs) is, each_none f xs (back_empty (f x) (flat_map f xs) is))

-- ---- entries under a URI

abbrev pub Under : List ℕ → List (List ℕ × Place) → List (List ℕ × Place)
Under uri entries = filter (λ e. bytes_eq e.0 uri) entries

abbrev pub NamedAs : List ℕ → List ℕ → List Named → List Named
NamedAs uri name entries = filter (λ e. bytes_eq e.uri uri && bytes_eq e.name name) entries

-- the entries of a place under a URI
abbrev pub borne_by : List ℕ → Place → List (List ℕ × Place)
borne_by uri p = Under uri (resource_of p)

-- the names of a place under a URI
abbrev pub named_by : List ℕ → List ℕ → Place → List Named
named_by uri name p = NamedAs uri name (named_at p)

-- a base that is another URI, or none
abbrev pub IsOther : List ℕ → Result (List ℕ) Refusal → Type 0
IsOther uri (Ok base) = bytes_eq base uri ≡ false
IsOther uri (Err refusal) = ⊤

not_kept : {A : Type 0} (x : A) (b : Bool) → cond b (x ∷ []) [] ≡ [] → b ≡ false
not_kept x true is = absurd (let e : x ∷ [] ≡ [] = is in cc)
not_kept x false is = refl

-- what a place has is its base, where it has an identifier
other_by : (uri outer : List ℕ) (p : Place) (id : Option (List ℕ)) (base : Result (List ℕ) Refusal) → base ≡ base_within outer id → bytes_eq outer uri ≡ false
    → Under uri (option_to_list (option_map (λ u. (u, p)) (option_and_then (λ i. result_ok base) id))) ≡ [] → IsOther uri base
other_by uri outer p None base is other none = subst (IsOther uri) (sym is) other
other_by uri outer p (Some id) (Ok base) is other none = not_kept (base, p) (bytes_eq base uri) none
other_by uri outer p (Some id) (Err refusal) is other none = tt

pub other_base : (uri outer : List ℕ) (p : Place) → p.base ≡ base_within outer (identifier_of p) → bytes_eq outer uri ≡ false → borne_by uri p ≡ [] → IsOther uri p.base
other_base uri outer p is other none = other_by uri outer p (identifier_of p) p.base is other none

-- ---- and so for the places below

abbrev pub NoneBears : List ℕ → List Place → Type 0
NoneBears uri ps = AllByRecursion (λ p. borne_by uri p ≡ []) ps

abbrev pub AllOther : List ℕ → List Place → Type 0
AllOther uri ps = AllByRecursion (λ p. IsOther uri p.base) ps

other_children : (uri : List ℕ) (path : List Part) (base : List ℕ) (cs : List Walked) → bytes_eq base uri ≡ false → NoneBears uri (map (child_place path base) cs) → AllOther uri (map (child_place path base) cs)
other_children uri path base [] other none = tt
other_children uri path base (c ∷ cs) other none =
    (other_base uri base (child_place path base c) refl other none.0, other_children uri path base cs other none.1)

other_with : (uri : List ℕ) (p : Place) (base : Result (List ℕ) Refusal) → IsOther uri base → NoneBears uri (children_with base p) → AllOther uri (children_with base p)
other_with uri p (Ok base) other none = other_children uri p.path base (walked_children p.draft p.value) other none
other_with uri p (Err refusal) other none = tt

other_level : (uri : List ℕ) (ps : List Place) → AllOther uri ps → NoneBears uri (flat_map children_of ps) → AllOther uri (flat_map children_of ps)
other_level uri [] other none = tt
other_level uri (p ∷ ps) other none =
    all_append (λ q. IsOther uri q.base) (children_of p) (flat_map children_of ps)
    (other_with uri p p.base other.0 (all_left (λ q. borne_by uri q ≡ []) (children_of p) (flat_map children_of ps) none))
    (other_level uri ps other.1 (all_right (λ q. borne_by uri q ≡ []) (children_of p) (flat_map children_of ps) none))

pub other_levels : (n : ℕ) (uri : List ℕ) (ps : List Place) → AllOther uri ps → NoneBears uri (levels_below n ps) → AllOther uri (levels_below n ps)
other_levels zero uri ps other none = tt
other_levels (suc n) uri ps other none =
    let next = flat_map children_of ps in
    let level = other_level uri ps other (all_left (λ q. borne_by uri q ≡ []) next (levels_below n next) none) in
    all_append (λ q. IsOther uri q.base) next (levels_below n next) level
    (other_levels n uri next level (all_right (λ q. borne_by uri q ≡ []) next (levels_below n next) none))

-- ---- names

none_named : (uri name base : List ℕ) (p : Place) (cs : List (List ℕ × Kind)) → bytes_eq base uri ≡ false
    → NamedAs uri name (map (λ a. record { uri = base; name = a.0; kind = a.1; place = p }) cs) ≡ []
none_named uri name base p [] other = refl
none_named uri name base p (a ∷ cs) other =
    ap (λ b. cond (b && bytes_eq a.0 name) (record { uri = base; name = a.0; kind = a.1; place = p } ∷ NamedAs uri name (map (λ a. record { uri = base; name = a.0; kind = a.1; place = p }) cs)) (NamedAs uri name (map (λ a. record { uri = base; name = a.0; kind = a.1; place = p }) cs))) other
    ∙ none_named uri name base p cs other

pub none_under : (uri name base : List ℕ) (p : Place) → bytes_eq base uri ≡ false → NamedAs uri name (named_under base p) ≡ []
none_under uri name base p other = none_named uri name base p (anchors p.draft p.value) other

none_with : (uri name : List ℕ) (p : Place) (base : Result (List ℕ) Refusal) → IsOther uri base → NamedAs uri name (option_map_or (λ b. named_under b p) (result_ok base) []) ≡ []
none_with uri name p (Ok base) other = none_under uri name base p other
none_with uri name p (Err refusal) other = refl

pub none_at : (uri name : List ℕ) (ps : List Place) → AllOther uri ps → AllByRecursion (λ p. named_by uri name p ≡ []) ps
none_at uri name [] other = tt
none_at uri name (p ∷ ps) other = (none_with uri name p p.base other.0, none_at uri name ps other.1)

-- ---- a document that doesn't have a URI

pub record IsFree (uri : List ℕ) (d : Document) : Type 0 where
  pub entry : bytes_eq d.uri uri ≡ false
  pub bears : NoneBears uri (places d)
  pub bases : AllOther uri (places d)

pub not_first : {A : Type 0} (x : A) (xs : List A) (b : Bool) → cond b (x ∷ xs) xs ≡ [] → b ≡ false
not_first x xs true is = absurd (let e : x ∷ xs ≡ [] = is in cc)
not_first x xs false is = refl

pub not_later : {A : Type 0} (x : A) (xs : List A) (b : Bool) → cond b (x ∷ xs) xs ≡ [] → xs ≡ []
not_later x xs true is = absurd (let e : x ∷ xs ≡ [] = is in cc)
not_later x xs false is = is

pub free : (uri : List ℕ) (d : Document) → Under uri (resources_in d) ≡ [] → IsFree uri d
free uri d none =
    let rest = Under uri (flat_map resource_of (places d)) in
    let first = not_first (d.uri, root d) rest (bytes_eq d.uri uri) none in
    let later : flat_map (borne_by uri) (places d) ≡ [] =
    sym (filter_flat (λ (e : List ℕ × Place). bytes_eq e.0 uri) resource_of (places d)) ∙ not_later (d.uri, root d) rest (bytes_eq d.uri uri) none in
    let bears = each_none (borne_by uri) (places d) later in
    let base = other_base uri d.uri (root d) refl first bears.0 in
    record {
      entry = first;
      bears = bears;
      bases = (base, other_levels (depth d.tree) uri (root d ∷ []) (base, tt) bears.1);
    }
