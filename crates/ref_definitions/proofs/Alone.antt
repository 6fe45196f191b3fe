-- A URI that one place has, and no other, means that place.
use Rattle.std.proofs.Common.{◌≡◌, ℕ, Bool, true, false, cond, List, [], ◌∷◌, filter, flat_map, Option, Some, None, is_some, option_map, option_and_then, Ok, ◌⊎◌, inl, inr, ⊎_elim, refl, sym, ap, subst, ◌∙◌, true≢false, bytes_eq, arith}
use Rattle.std.specs.List.{Contains, AllByRecursion, last_or}
use Rattle.std.specs.Option.{option_map_or, option_to_list}
use Rattle.std.specs.Result.{result_ok}
use Rattle.std.proofs.lemmas.List.Elements.{Contains-append_right}
use Rattle.std.proofs.lemmas.Slice.Eq.{bytes_eq-Decides}
use Rattle.ref_draft.specs.Schema.{identifier}
use Rattle.ref_definitions.specs.World.{Document, Layer, World}
use Rattle.ref_definitions.specs.Places.{Place, root, places, identifier_of, base_within}
use Rattle.ref_definitions.specs.Resources.{resource_of, resources_in, resources, last_under, meant_place}
use Rattle.ref_definitions.proofs.Last.{last_there}
use Rattle.ref_definitions.proofs.Lists.{first_or_later, in_joined}

-- ---- entries under a URI

abbrev Under : List ℕ → List (List ℕ × Place) → List (List ℕ × Place)
Under uri entries = filter (λ e. bytes_eq e.0 uri) entries

kept_alone : (uri : List ℕ) (r : Place) (e : List ℕ × Place) (es : List (List ℕ × Place)) (b : Bool) → (b ≡ true → e.1 ≡ r) → AllByRecursion (λ x. x.1 ≡ r) es → AllByRecursion (λ x. x.1 ≡ r) (cond b (e ∷ es) es)
kept_alone uri r e es true first rest = (first refl, rest)
kept_alone uri r e es false first rest = rest

all_alone : (uri : List ℕ) (r : Place) (entries : List (List ℕ × Place)) → ((p : Place) → Contains entries (uri, p) → p ≡ r) → AllByRecursion (λ x. x.1 ≡ r) (Under uri entries)
all_alone uri r [] alone = tt
all_alone uri r (e ∷ es) alone =
    kept_alone uri r e (Under uri es) (bytes_eq e.0 uri)
    (λ same. alone e.1 (0, omega arith, ap (λ u. (u, e.1)) ((bytes_eq-Decides e.0 uri).0 same)))
    (all_alone uri r es (λ p there. alone p (Contains-append_right (e ∷ []) es (uri, p) there)))

last_alone : (r : Place) (o : Option (List ℕ × Place)) (es : List (List ℕ × Place)) → ((x : List ℕ × Place) → o ≡ Some x → x.1 ≡ r) → AllByRecursion (λ x. x.1 ≡ r) es
    → (x : List ℕ × Place) → last_or o es ≡ Some x → x.1 ≡ r
last_alone r o [] first each x is = first x is
last_alone r o (e ∷ es) first each x is = last_alone r (Some e) es (λ y same. let z : e ≡ y = cc in ap (λ (w : List ℕ × Place). w.1) (sym z) ∙ each.0) each.1 x is

some_kept : (e : List ℕ × Place) (es : List (List ℕ × Place)) (b : Bool) → is_some (last_or None es) ≡ true → is_some (last_or None (cond b (e ∷ es) es)) ≡ true
some_kept e es true some = last_there e es
some_kept e es false some = some

some_under : (uri : List ℕ) (entries : List (List ℕ × Place)) (p : Place) → Contains entries (uri, p) → is_some (last_under uri entries) ≡ true
some_under uri [] p there = absurd (omega (arith, there.1))
some_under uri (e ∷ es) p there =
    ⊎_elim
    (λ same. ap (λ b. is_some (last_or None (cond b (e ∷ Under uri es) (Under uri es)))) ((bytes_eq-Decides e.0 uri).1 (ap (λ (x : List ℕ × Place). x.0) same)) ∙ last_there e (Under uri es))
    (λ later. some_kept e (Under uri es) (bytes_eq e.0 uri) (some_under uri es p later))
    (first_or_later e es (uri, p) there)

by_last : (world : World) (uri : List ℕ) (r : Place) (o : Option (List ℕ × Place)) → is_some o ≡ true → ((x : List ℕ × Place) → o ≡ Some x → x.1 ≡ r)
    → option_map_or (λ e. Some e.1) o (meant_place world uri) ≡ Some r
by_last world uri r None some alone = absurd (true≢false (sym some))
by_last world uri r (Some x) some alone = ap (λ p. Some p) (alone x refl)

pub means_alone : (layer : Layer) (parents : World) (uri : List ℕ) (r : Place) → Contains (resources layer) (uri, r) → ((p : Place) → Contains (resources layer) (uri, p) → p ≡ r) → meant_place (layer ∷ parents) uri ≡ Some r
means_alone layer parents uri r there alone =
    by_last parents uri r (last_under uri (resources layer)) (some_under uri (resources layer) r there)
    (last_alone r None (Under uri (resources layer)) (λ x is. absurd (cc)) (all_alone uri r (resources layer) alone))

-- ---- what a place has

entry_of_root : (d : Document) (r : Place) (uri : List ℕ) → r ≡ root d → identifier_of r ≡ None → r.base ≡ Ok uri → Contains (resources_in d) (uri, r)
entry_of_root d r uri same none base =
    let without : identifier d.draft d.tree ≡ None = sym (ap identifier_of same) ∙ none in
    let plain : Ok d.uri ≡ Ok uri = sym (ap (base_within d.uri) without) ∙ sym (ap (λ (p : Place). p.base) same) ∙ base in
    let uris : d.uri ≡ uri = cc in
    (0, omega arith, ap (λ u. (u, root d)) uris ∙ ap (λ p. (uri, p)) (sym same))

entry_of_place : (d : Document) (r : Place) (uri id : List ℕ) → Contains (places d) r → identifier_of r ≡ Some id → r.base ≡ Ok uri → Contains (resources_in d) (uri, r)
entry_of_place d r uri id there has base =
    let one : resource_of r ≡ (uri, r) ∷ [] =
    ap (λ o. option_to_list (option_map (λ u. (u, r)) (option_and_then (λ i. result_ok r.base) o))) has
    ∙ ap (λ b. option_to_list (option_map (λ u. (u, r)) (result_ok b))) base in
    Contains-append_right ((d.uri, root d) ∷ []) (flat_map resource_of (places d)) (uri, r)
    (in_joined resource_of (places d) r (uri, r) there (subst (λ es. Contains es (uri, r)) (sym one) (0, omega arith, refl)))

entry : (d : Document) (r : Place) (uri : List ℕ) (id : Option (List ℕ)) → identifier_of r ≡ id → Contains (places d) r → (r ≡ root d) ⊎ (is_some (identifier_of r) ≡ true) → r.base ≡ Ok uri → Contains (resources_in d) (uri, r)
entry d r uri (Some id) has there resource base = entry_of_place d r uri id there has base
entry d r uri None has there (inl same) base = entry_of_root d r uri same has base
entry d r uri None has there (inr some) base = absurd (true≢false (sym some ∙ ap is_some has))

-- a root, or a place with an identifier, has its base
pub bears : (layer : Layer) (d : Document) (r : Place) (uri : List ℕ) → Contains layer d → Contains (places d) r → (r ≡ root d) ⊎ (is_some (identifier_of r) ≡ true) → r.base ≡ Ok uri → Contains (resources layer) (uri, r)
bears layer d r uri own there resource base =
    in_joined resources_in layer d (uri, r) own (entry d r uri (identifier_of r) refl there resource base)
