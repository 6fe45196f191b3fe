-- Where places are, layer by layer, and what a reference points at there.
use Rattle.std.proofs.Common.{◌≡◌, ℕ, suc, ◌+◌, ◌<◌, arith, Bool, true, false, eqb, List, [], ◌∷◌, length, get_or, drop, map, flat_map, Option, Some, None, option_map, IfSome, Bor, Ok, refl, sym, ap, ◌∙◌}
use Rattle.std.specs.Prelude.{not, option_and_then}
use Rattle.std.specs.Option.{option_or, option_map_or}
use Rattle.std.specs.Result.{result_ok}
use Rattle.percent_encoding.specs.Percent.{percent_decode}
use Rattle.serde_json.specs.Data.{Data}
use Rattle.ref_paths.specs.Path.{Part}
use Rattle.ref_parts.specs.Pointer.{tokens}
use Rattle.ref_draft.specs.Anchors.{Plain, Dynamic}
use Rattle.ref_uri.specs.Targets.{target, fragment_part}
use Rattle.ref_definitions.specs.World.{Layer, World}
use Rattle.ref_definitions.specs.Places.{Place}
use Rattle.ref_definitions.specs.Resources.{resources, last_under, own_uri, meant_place}
use Rattle.ref_definitions.specs.Anchors.{Named, names, last_named, named_entry, anchor}
use Rattle.ref_definitions.specs.Pointers.{step_into}
use Rattle.ref_definitions.specs.Lookup.{Resolver, moved_resolver, in_scope, entry_of, outermost}
use Rattle.ref_index.specs.declared.entry.Entry.{Entry}
use Rattle.ref_index.specs.Spots.{Spot, last_resource, last_name, spot_under, spot_named, spot_of}
use Rattle.ref_index.proofs.Spots.{last_resource_is, last_name_is}
use Rattle.ref_resolver.specs.declared.located.Located.{Located}
use Rattle.ref_resolver.specs.Locations.{uri_spot_from, uri_spot, name_spot_from, name_spot, anchor_spot, naming_uri, parts_along, with_parts, pointer_spot, fragment_spot, lookup_location}
use Rattle.ref_resolver.specs.inner.Names.{is_name}
use Rattle.ref_resolver.proofs.Fragments.{no_name}
use Rattle.ref_resolver.proofs.Locating.{parents_step}

-- ---- what was looked up

pub if_some : {A : Type 0} (P Q : A → Type 0) (o : Option A) → ((a : A) → P a → Q a) → IfSome o P → IfSome o Q
if_some P Q None then is = tt
if_some P Q (Some a) then is = then a is

-- the entry of what was looked up says where it is
pub entry_says_spot : (at : Option Spot) (entry : Option (Bor Entry)) (found : Option Located) → IfSome entry (λ e. at ≡ Some (spot_of e.now))
    → IfSome found (λ l. option_map (λ (e : Bor Entry). e.now) entry ≡ Some l.entry.now) → IfSome found (λ l. at ≡ Some (spot_of l.entry.now))
entry_says_spot at entry None here is = tt
entry_says_spot at None (Some l) here is = cc
entry_says_spot at (Some e) (Some l) here is = (let same : e.now ≡ l.entry.now = cc in here ∙ ap (λ x. Some (spot_of x)) same)

-- that of an entry is the entry
pub entry_told : (entry : Option (Bor Entry)) (e : Bor Entry) (found : Option Located) → entry ≡ Some e → IfSome found (λ l. l.entry.now ≡ e.now) → IfSome found (λ l. option_map (λ (b : Bor Entry). b.now) entry ≡ Some l.entry.now)
entry_told entry e found here =
    if_some (λ l. l.entry.now ≡ e.now) (λ l. option_map (λ (b : Bor Entry). b.now) entry ≡ Some l.entry.now) found (λ l is. ap (option_map (λ (b : Bor Entry). b.now)) here ∙ ap Some (sym is))

-- ---- layer by layer

none_mapped : {A B C : Type 0} (f : A → B) (g : A → C) (o : Option A) → option_map f o ≡ None → option_map g o ≡ None
none_mapped f g None none = refl
none_mapped f g (Some a) none = cc

no_spot : (uri : List ℕ) (layer : Layer) → last_under uri (resources layer) ≡ None → spot_under uri layer ≡ None
no_spot uri layer none =
    none_mapped (λ (r : ℕ × (List ℕ × Place)). r.1) (λ (r : ℕ × (List ℕ × Place)). record { document = r.0; path = r.1.1.path }) (last_resource uri layer) (sym (last_resource_is uri layer) ∙ none)

no_named_spot : (uri name : List ℕ) (layer : Layer) → last_named uri name (names layer) ≡ None → spot_named uri name layer ≡ None
no_named_spot uri name layer none =
    none_mapped (λ (n : ℕ × Named). n.1) (λ (n : ℕ × Named). record { document = n.0; path = n.1.place.path }) (last_name uri name layer) (sym (last_name_is uri name layer) ∙ none)

pub near_spot : (number : ℕ) (layer : Layer) (world : World) (uri : List ℕ) (s : Spot) → spot_under uri layer ≡ Some s → uri_spot_from number (layer ∷ world) uri ≡ Some (number, s)
near_spot number layer world uri s is = ap (λ o. option_or (option_map (λ (x : Spot). (number, x)) o) (uri_spot_from (suc number) world uri)) is

pub far_spot : (number : ℕ) (layer : Layer) (world : World) (uri : List ℕ) → last_under uri (resources layer) ≡ None → uri_spot_from number (layer ∷ world) uri ≡ uri_spot_from (suc number) world uri
far_spot number layer world uri none = ap (λ o. option_or (option_map (λ (x : Spot). (number, x)) o) (uri_spot_from (suc number) world uri)) (no_spot uri layer none)

pub near_name_spot : (number : ℕ) (layer : Layer) (world : World) (uri name : List ℕ) (s : Spot) → spot_named uri name layer ≡ Some s → name_spot_from number (layer ∷ world) uri name ≡ Some (number, s)
near_name_spot number layer world uri name s is = ap (λ o. option_or (option_map (λ (x : Spot). (number, x)) o) (name_spot_from (suc number) world uri name)) is

pub far_name_spot : (number : ℕ) (layer : Layer) (world : World) (uri name : List ℕ) → last_named uri name (names layer) ≡ None → name_spot_from number (layer ∷ world) uri name ≡ name_spot_from (suc number) world uri name
far_name_spot number layer world uri name none = ap (λ o. option_or (option_map (λ (x : Spot). (number, x)) o) (name_spot_from (suc number) world uri name)) (no_named_spot uri name layer none)

-- ---- the next of the parents

module _ {A : Type 0} (v : A → Layer) (xs : List A) (i : ℕ) (x : A) (within : i < length xs) (is : x ≡ get_or xs i x) where
  -- a URI that it has is there
  pub spot_next : (uri : List ℕ) (s : Spot) → uri_spot_from 1 (map v xs) uri ≡ uri_spot_from (i + 1) (map v (drop i xs)) uri → spot_under uri (v x) ≡ Some s → uri_spot_from 1 (map v xs) uri ≡ Some (i + 1, s)
  spot_next uri s same at = same ∙ parents_step (λ w. uri_spot_from (i + 1) w uri) v xs i x within is ∙ near_spot (i + 1) (v x) (map v (drop (i + 1) xs)) uri s at

  -- one that it hasn't is where it is in the layers after it
  pub spot_beyond : (uri : List ℕ) → uri_spot_from 1 (map v xs) uri ≡ uri_spot_from (i + 1) (map v (drop i xs)) uri → last_under uri (resources (v x)) ≡ None
      → uri_spot_from 1 (map v xs) uri ≡ uri_spot_from ((i + 1) + 1) (map v (drop (i + 1) xs)) uri
  spot_beyond uri same none =
      let next : suc (i + 1) ≡ (i + 1) + 1 = omega arith in
      same ∙ parents_step (λ w. uri_spot_from (i + 1) w uri) v xs i x within is ∙ far_spot (i + 1) (v x) (map v (drop (i + 1) xs)) uri none ∙ ap (λ n. uri_spot_from n (map v (drop (i + 1) xs)) uri) next

  -- a name that it has is there
  pub name_spot_next : (uri name : List ℕ) (s : Spot) → name_spot_from 1 (map v xs) uri name ≡ name_spot_from (i + 1) (map v (drop i xs)) uri name → spot_named uri name (v x) ≡ Some s
      → name_spot_from 1 (map v xs) uri name ≡ Some (i + 1, s)
  name_spot_next uri name s same at = same ∙ parents_step (λ w. name_spot_from (i + 1) w uri name) v xs i x within is ∙ near_name_spot (i + 1) (v x) (map v (drop (i + 1) xs)) uri name s at

  -- one that it hasn't is where it is in the layers after it
  pub name_spot_beyond : (uri name : List ℕ) → name_spot_from 1 (map v xs) uri name ≡ name_spot_from (i + 1) (map v (drop i xs)) uri name → last_named uri name (names (v x)) ≡ None
      → name_spot_from 1 (map v xs) uri name ≡ name_spot_from ((i + 1) + 1) (map v (drop (i + 1) xs)) uri name
  name_spot_beyond uri name same none =
      let next : suc (i + 1) ≡ (i + 1) + 1 = omega arith in
      same ∙ parents_step (λ w. name_spot_from (i + 1) w uri name) v xs i x within is ∙ far_name_spot (i + 1) (v x) (map v (drop (i + 1) xs)) uri name none
      ∙ ap (λ n. name_spot_from n (map v (drop (i + 1) xs)) uri name) next

-- ---- what an anchor means

none_either : {A : Type 0} (o p : Option A) → option_or o p ≡ None → (o ≡ None) × (p ≡ None)
none_either None p none = (refl, none)
none_either (Some a) p none = cc

nowhere_named : (number : ℕ) (world : World) (uri name : List ℕ) → named_entry world uri name ≡ None → name_spot_from number world uri name ≡ None
nowhere_named number [] uri name none = refl
nowhere_named number (layer ∷ world) uri name none =
    let (here, behind) = none_either (last_named uri name (names layer)) (named_entry world uri name) none in
    far_name_spot number layer world uri name here ∙ nowhere_named (suc number) world uri name behind

pub anchor_spot_near : (world : World) (uri name : List ℕ) (at : ℕ × Spot) → name_spot world uri name ≡ Some at → anchor_spot world uri name ≡ Some at
anchor_spot_near world uri name at is = ap (λ o. option_or o (option_and_then (λ own. name_spot world own name) (option_and_then own_uri (meant_place world uri)))) is

pub anchor_spot_after : (world : World) (uri name base : List ℕ) (at : ℕ × Spot) → named_entry world uri name ≡ None → option_and_then own_uri (meant_place world uri) ≡ Some base → name_spot world base name ≡ Some at
    → anchor_spot world uri name ≡ Some at
anchor_spot_after world uri name base at none own is =
    ap (λ o. option_or o (option_and_then (λ own. name_spot world own name) (option_and_then own_uri (meant_place world uri)))) (nowhere_named 0 world uri name none)
    ∙ ap (option_and_then (λ own. name_spot world own name)) own ∙ is

-- ---- what a fragment means

pub located_at : (w : World) (r : Resolver) (reference uri fragment : List ℕ) → target r.base reference ≡ Ok uri → fragment_part reference ≡ fragment → lookup_location w r reference ≡ fragment_spot w (moved_resolver r uri) fragment
unfolding lookup_location
located_at w r reference uri fragment is part =
    ap (λ t. option_and_then (λ u. fragment_spot w (moved_resolver r u) (fragment_part reference)) (result_ok t)) is ∙ ap (fragment_spot w (moved_resolver r uri)) part

pub whole_spot : (w : World) (m : Resolver) (fragment : List ℕ) → is_name fragment ≡ false → ((rest : List ℕ) → fragment ≡ 47 ∷ rest → ⊥) → fragment_spot w m fragment ≡ uri_spot w m.base
whole_spot w m [] name none = refl
whole_spot w m (c ∷ text) name none = absurd (no_name c text (eqb c 47) refl name none)

pub pointed_spot : (w : World) (m : Resolver) (p : Place) (at : ℕ × Spot) (fragment text : List ℕ) → fragment ≡ 47 ∷ text → meant_place w m.base ≡ Some p → uri_spot w m.base ≡ Some at
    → fragment_spot w m fragment ≡ Some (with_parts (parts_along fragment p.value (tokens (percent_decode text))) at)
pointed_spot w m p at fragment text is means there =
    ap (fragment_spot w m) is ∙ ap (λ f. pointer_spot w m.base f text) (sym is)
    ∙ ap (option_and_then (λ (q : Place). option_map (with_parts (parts_along fragment q.value (tokens (percent_decode text)))) (uri_spot w m.base))) means
    ∙ ap (option_map (with_parts (parts_along fragment p.value (tokens (percent_decode text))))) there

abbrev by_anchor : World → Resolver → List ℕ → Option (ℕ × Spot)
by_anchor w m name = option_and_then (λ n. anchor_spot w (naming_uri w m n n.kind) name) (result_ok (anchor w m.base name))

by_name : (w : World) (m : Resolver) (c : ℕ) (text : List ℕ) (t : Bool) → eqb c 47 ≡ t → not t ≡ true → fragment_spot w m (c ∷ text) ≡ by_anchor w m (c ∷ text)
by_name w m c text false is name = rw is refl
by_name w m c text true is name = cc

name_there : (w : World) (m : Resolver) (name : List ℕ) → is_name name ≡ true → fragment_spot w m name ≡ by_anchor w m name
name_there w m [] name = cc
name_there w m (c ∷ text) name = by_name w m c text (eqb c 47) refl name

pub named_spot : (w : World) (m : Resolver) (name : List ℕ) (n : Named) → is_name name ≡ true → anchor w m.base name ≡ Ok n → fragment_spot w m name ≡ anchor_spot w (naming_uri w m n n.kind) name
named_spot w m name n is means =
    name_there w m name is ∙ ap (λ a. option_and_then (λ k. anchor_spot w (naming_uri w m k k.kind) name) (result_ok a)) means

pub plainly : (w : World) (m : Resolver) (n : Named) → n.kind ≡ Plain → naming_uri w m n n.kind ≡ m.base
plainly w m n is = ap (naming_uri w m n) is

-- by the scope
pub naming_scope : (w : World) (r : Resolver) (n : Named) (name : List ℕ) → n.name ≡ name → n.kind ≡ Dynamic → naming_uri w r n n.kind ≡ (outermost (r.base, n) (flat_map entry_of (in_scope w name r.scope))).0
naming_scope w r n name called is = ap (naming_uri w r n) is ∙ ap (λ text. (outermost (r.base, n) (flat_map entry_of (in_scope w text r.scope))).0) called

-- ---- the parts of a pointer

pub part_first : (pointer : List ℕ) (value : Data) (token : List ℕ) (more : List (List ℕ)) (s : Part × Data) → step_into pointer value token ≡ Ok s → parts_along pointer value (token ∷ more) ≡ s.0 ∷ parts_along pointer s.1 more
part_first pointer value token more s is = ap (λ a. option_map_or (λ (t : Part × Data). t.0 ∷ parts_along pointer t.1 more) (result_ok a) []) is
