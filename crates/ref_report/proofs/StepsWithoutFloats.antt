-- In a world without floats steps lead to values without floats.
use Rattle.std.proofs.Common.{◌≡◌, ℕ, ◌+◌, false, List, [], ◌∷◌, map, None, IfSome, Result, Ok, Err, IfOk, subst}
use Rattle.std.specs.List.{AllByRecursion}
use Rattle.serde_json.specs.Data.{Data}
use Rattle.serde_json.specs.Written.{has_float, items_have_float, members_have_float}
use Rattle.ref_paths.specs.Path.{Part, Key, Index, child_at}
use Rattle.ref_draft.specs.declared.draft.Draft.{Draft}
use Rattle.ref_draft.specs.Children.{Child, children, with_draft}
use Rattle.ref_draft.proofs.Hereditary.{Hereditary, in_children}
use Rattle.ref_draft.proofs.Lists.{all_map}
use Rattle.ref_uri.specs.Targets.{Refusal}
use Rattle.ref_definitions.specs.World.{Document, World}
use Rattle.ref_definitions.specs.Places.{Place, child_place, children_with, places}
use Rattle.ref_definitions.specs.Fault.{Fault, as_invalid_uri}
use Rattle.ref_definitions.specs.Lookup.{Found, in_subresource, lookup}
use Rattle.ref_definitions.specs.Recursive.{lookup_recursive}
use Rattle.ref_definitions.specs.Parts.{AllDocuments}
use Rattle.ref_definitions.specs.Follow.{Step, Lookup, Recursive, Enter, Followed, after_lookup, after_step, numbered_fault, followed_from, followed_steps}
use Rattle.ref_report.specs.inner.Floats.{HoldsNoFloat, LayerHoldsNoFloat, WorldHoldsNoFloat}
use Rattle.ref_definitions.proofs.Options.{if_bound, if_any}
use Rattle.ref_definitions.proofs.Induction.{places_induct}
use Rattle.ref_definitions.proofs.LookedUp.{HoldsInPlaces, GoesToParts, of_lookup, of_recursive}
use Rattle.ref_report.proofs.Floats.{or_is_false, at_without_floats, under_without_floats}

-- ---- places

hereditary : Hereditary HoldsNoFloat (λ ds. items_have_float ds ≡ false) (λ ms. members_have_float ms ≡ false)
hereditary = record {
  element = λ d ds h. (or_is_false (has_float d) (items_have_float ds) h).0;
  elements = λ d ds h. (or_is_false (has_float d) (items_have_float ds) h).1;
  value = λ k d ms h. (or_is_false (has_float d) (members_have_float ms) h).0;
  members = λ k d ms h. (or_is_false (has_float d) (members_have_float ms) h).1;
  in_array = λ ds h. h;
  in_object = λ ms h. h;
}

abbrev PlaceHoldsNoFloat : Place → Type 0
PlaceHoldsNoFloat p = HoldsNoFloat p.value

child_places : (path : List Part) (base : List ℕ) (draft : Draft) (cs : List Child) → AllByRecursion (λ c. HoldsNoFloat c.1) cs → AllByRecursion PlaceHoldsNoFloat (map (child_place path base) (map (with_draft draft) cs))
child_places path base draft [] each = tt
child_places path base draft (c ∷ cs) each = (each.0, child_places path base draft cs each.1)

children_without_floats : (p : Place) (base : Result (List ℕ) Refusal) → PlaceHoldsNoFloat p → AllByRecursion PlaceHoldsNoFloat (children_with base p)
children_without_floats p (Ok base) h =
    child_places p.path base p.draft (children p.draft p.value) (in_children HoldsNoFloat (λ ds. items_have_float ds ≡ false) (λ ms. members_have_float ms ≡ false) hereditary p.draft p.value h)
children_without_floats p (Err refusal) h = tt

places_without_floats : (d : Document) → HoldsNoFloat d.tree → HoldsInPlaces HoldsNoFloat d
places_without_floats d h = places_induct PlaceHoldsNoFloat (λ p q. children_without_floats p p.base q) d h

world_places : (world : World) → WorldHoldsNoFloat world → AllDocuments (HoldsInPlaces HoldsNoFloat) world
world_places world each =
    all_map LayerHoldsNoFloat (AllByRecursion (HoldsInPlaces HoldsNoFloat)) world (λ layer h. all_map (λ d. HoldsNoFloat d.tree) (HoldsInPlaces HoldsNoFloat) layer places_without_floats h) each

-- ---- parts

child_without_floats : (d : Data) (part : Part) → HoldsNoFloat d → IfSome (child_at d part) HoldsNoFloat
child_without_floats d (Key k) h = under_without_floats k d h
child_without_floats d (Index i) h = at_without_floats i d h

part_without_floats : GoesToParts HoldsNoFloat
part_without_floats d there part is h = subst (λ o. IfSome o HoldsNoFloat) is (child_without_floats d part h)

abbrev FoundHoldsNoFloat : Found → Type 0
FoundHoldsNoFloat found = HoldsNoFloat found.value

-- ---- steps

abbrev pub LastHoldsNoFloat : Followed → Type 0
LastHoldsNoFloat f = IfSome f.last (λ found. HoldsNoFloat found.0)

stepped_without_floats : (world : World) (f : Followed) (s : Step) → WorldHoldsNoFloat world → LastHoldsNoFloat f → IfOk (after_step world f s) LastHoldsNoFloat
stepped_without_floats world f (Lookup reference) each h = if_bound FoundHoldsNoFloat LastHoldsNoFloat (lookup world f.resolver reference) (λ found. Ok (after_lookup found)) (of_lookup HoldsNoFloat part_without_floats world f.resolver reference (world_places world each)) (λ found p. p)
stepped_without_floats world f Recursive each h = if_bound FoundHoldsNoFloat LastHoldsNoFloat (lookup_recursive world f.resolver) (λ found. Ok (after_lookup found)) (of_recursive HoldsNoFloat part_without_floats world f.resolver (world_places world each)) (λ found p. p)
stepped_without_floats world f (Enter draft value) each h = if_any LastHoldsNoFloat (as_invalid_uri (in_subresource f.resolver draft value)) (λ r. Ok (record f { resolver = r })) (λ r. h)

numbered_without_floats : (n : ℕ) (r : Result Followed Fault) → IfOk r LastHoldsNoFloat → IfOk (numbered_fault n r) LastHoldsNoFloat
numbered_without_floats n (Ok f) h = h
numbered_without_floats n (Err fault) h = tt

all_without_floats : (world : World) (n : ℕ) (f : Followed) (ss : List Step) → WorldHoldsNoFloat world → LastHoldsNoFloat f → IfOk (followed_from world n f ss) LastHoldsNoFloat
all_without_floats world n f [] each h = h
all_without_floats world n f (s ∷ ss) each h =
    if_bound LastHoldsNoFloat LastHoldsNoFloat (numbered_fault n (after_step world f s)) (λ g. followed_from world (n + 1) g ss) (numbered_without_floats n (after_step world f s) (stepped_without_floats world f s each h)) (λ g p. all_without_floats world (n + 1) g ss each p)

ends_by : (world : World) (base : List ℕ) (ss : List Step) → WorldHoldsNoFloat world → IfOk (followed_steps world base ss) LastHoldsNoFloat
unfolding followed_steps
ends_by world base ss each = all_without_floats world 0 (record { last = None; resolver = record { base = base; scope = [] } }) ss each tt

pub ends_without_floats : (world : World) (base : List ℕ) (ss : List Step) (f : Followed) → WorldHoldsNoFloat world → followed_steps world base ss ≡ Ok f → LastHoldsNoFloat f
ends_without_floats world base ss f each is = subst (λ r. IfOk r LastHoldsNoFloat) is (ends_by world base ss each)
