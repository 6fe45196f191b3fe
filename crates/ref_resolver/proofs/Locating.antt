-- Places that were looked up, layer by layer, over plain values.
use Rattle.std.proofs.Common.{◌≡◌, ℕ, suc, ◌+◌, ◌<◌, arith, List, ◌∷◌, length, get_or, drop, map, slice_get, Option, Some, None, Err, option_map, MatchOption, IfSome, refl, sym, ap, subst, ◌∙◌}
use Rattle.std.proofs.lemmas.List.{at_drop_more}
use Rattle.std.proofs.lemmas.Option.{slice_get-map, slice_get-get_or}
use Rattle.std.specs.Option.{option_map_or, option_or, ok_or}
use Rattle.std.specs.Result.{result_ok}
use Rattle.ref_definitions.specs.World.{Layer, World}
use Rattle.ref_definitions.specs.Places.{Place}
use Rattle.ref_definitions.specs.Resources.{last_under, resources, meant_place}
use Rattle.ref_definitions.specs.Fault.{Fault}
use Rattle.ref_definitions.specs.Anchors.{Named, last_named, names, named_entry, named_by_identifier, not_named, anchor}
use Rattle.ref_resolver.specs.declared.located.Located.{Located}
use Rattle.ref_resolver.specs.declared.located.LocatedName.{LocatedName}
use Rattle.ref_resolver.specs.declared.located.NumberedName.{NumberedName}
use Rattle.ref_resolver.specs.inner.Located.{IsLocated, IsLocatedIn, IsLocatedAt, IsMeant, IsMeantIn, IsMeantAt, IsNameAt, IsNamedIn, IsNamedAt}

pub meant_of : (layer : Layer) (o : Option Located) (found : Option (List ℕ × Place)) (r : List ℕ × Place) → found ≡ Some r → MatchOption o ⊥ (λ l. IsLocatedIn layer l r.1)
    → MatchOption o (found ≡ None) (IsMeantIn layer (option_map (λ e. e.1) found))
meant_of layer None found r is at = absurd at
meant_of layer (Some l) found r is at = (r.1, ap (option_map (λ e. e.1)) is, at)

-- ---- the layers of parents, which are counted from 1

parent_layer : {A : Type 0} (own : Layer) (v : A → Layer) (xs : List A) (i : ℕ) (x : A) → i < length xs → x ≡ get_or xs i x → slice_get (own ∷ map v xs) (i + 1) ≡ Some (v x)
parent_layer own v xs i x within is =
    let next : i + 1 ≡ suc i = omega arith in
    ap (slice_get (own ∷ map v xs)) next ∙ slice_get-map v xs i ∙ ap (option_map v) (slice_get-get_or xs i x within ∙ ap (λ y. Some y) (sym is))

pub parents_step : {A Y : Type 0} (F : World → Y) (v : A → Layer) (xs : List A) (i : ℕ) (x : A) → i < length xs → x ≡ get_or xs i x → F (map v (drop i xs)) ≡ F (v x ∷ map v (drop (i + 1) xs))
parents_step F v xs i x within is = at_drop_more (λ l. F (map v l)) xs i x within ∙ ap (λ y. F (v y ∷ map v (drop (i + 1) xs))) (sym is)

-- ---- a URI

near_step : (At : Place → Type 0) (found : Option (List ℕ × Place)) (behind : Option Place) → (p : Place) × (option_map (λ e. e.1) found ≡ Some p) × At p → (p : Place) × (option_map_or (λ e. Some e.1) found behind ≡ Some p) × At p
near_step At None behind (p, is, at) = cc
near_step At (Some e) behind meant = meant

far_step : (found : Option (List ℕ × Place)) (behind : Option Place) → found ≡ None → option_map_or (λ e. Some e.1) found behind ≡ behind
far_step None behind none = refl
far_step (Some e) behind none = cc

-- one that was found in the nearest layer, of which something holds
pub near : (At : Place → Type 0) (layer : Layer) (parents : World) (uri : List ℕ) → (p : Place) × (option_map (λ e. e.1) (last_under uri (resources layer)) ≡ Some p) × At p → (p : Place) × (meant_place (layer ∷ parents) uri ≡ Some p) × At p
near At layer parents uri = near_step At (last_under uri (resources layer)) (meant_place parents uri)

pub meant_near : (layer : Layer) (parents : World) (uri : List ℕ) (o : Option Located) → MatchOption o (last_under uri (resources layer) ≡ None) (IsMeantIn layer (option_map (λ e. e.1) (last_under uri (resources layer))))
    → IfSome o (IsMeant (meant_place (layer ∷ parents) uri))
meant_near layer parents uri None is = tt
meant_near layer parents uri (Some l) (p, is, at) = near (IsLocated l) layer parents uri (p, is, at.place)

pub far : (layer : Layer) (parents : World) (uri : List ℕ) → last_under uri (resources layer) ≡ None → meant_place (layer ∷ parents) uri ≡ meant_place parents uri
far layer parents uri = far_step (last_under uri (resources layer)) (meant_place parents uri)

-- ---- a name

near_name_step : (At : Named → Type 0) (found behind : Option Named) → (n : Named) × (found ≡ Some n) × At n → (n : Named) × (option_or found behind ≡ Some n) × At n
near_name_step At None behind (n, is, at) = cc
near_name_step At (Some e) behind meant = meant

far_name_step : (found behind : Option Named) → found ≡ None → option_or found behind ≡ behind
far_name_step None behind none = refl
far_name_step (Some e) behind none = cc

pub near_name : (At : Named → Type 0) (layer : Layer) (parents : World) (uri name : List ℕ) → (n : Named) × (last_named uri name (names layer) ≡ Some n) × At n → (n : Named) × (named_entry (layer ∷ parents) uri name ≡ Some n) × At n
near_name At layer parents uri name = near_name_step At (last_named uri name (names layer)) (named_entry parents uri name)

pub far_name : (layer : Layer) (parents : World) (uri name : List ℕ) → last_named uri name (names layer) ≡ None → named_entry (layer ∷ parents) uri name ≡ named_entry parents uri name
far_name layer parents uri name = far_name_step (last_named uri name (names layer)) (named_entry parents uri name)

-- ---- the next of the parents

module _ {A : Type 0} (v : A → Layer) (xs : List A) (i : ℕ) (x : A) (within : i < length xs) (is : x ≡ get_or xs i x) where
  -- a URI that it has means the place there
  pub meant_next : (own : Layer) (uri : List ℕ) (l : Located) → meant_place (map v xs) uri ≡ meant_place (map v (drop i xs)) uri → IsMeantIn (v x) (option_map (λ e. e.1) (last_under uri (resources (v x)))) l
      → IsMeantAt (own ∷ map v xs) (meant_place (map v xs) uri) (record { layer = i + 1; place = l })
  meant_next own uri l same (p, found, at) =
      subst (λ o. IsMeantAt (own ∷ map v xs) o (record { layer = i + 1; place = l })) (sym (same ∙ parents_step (λ w. meant_place w uri) v xs i x within is))
      (near (IsLocatedAt (own ∷ map v xs) (record { layer = i + 1; place = l })) (v x) (map v (drop (i + 1) xs)) uri (p, found, record { layer = v x; numbered = parent_layer own v xs i x within is; there = at }))

  -- one that it hasn't means what it means in the layers after it
  pub meant_beyond : (uri : List ℕ) → meant_place (map v xs) uri ≡ meant_place (map v (drop i xs)) uri → last_under uri (resources (v x)) ≡ None → meant_place (map v xs) uri ≡ meant_place (map v (drop (i + 1) xs)) uri
  meant_beyond uri same none = same ∙ parents_step (λ w. meant_place w uri) v xs i x within is ∙ far (v x) (map v (drop (i + 1) xs)) uri none

  -- a name that it has means the place there
  pub named_next : (own : Layer) (uri name : List ℕ) (l : LocatedName) (numbered : NumberedName) → numbered ≡ record { named = l.named; place = record { layer = i + 1; place = l.place } }
      → named_entry (map v xs) uri name ≡ named_entry (map v (drop i xs)) uri name → IsNamedIn (v x) (last_named uri name (names (v x))) l → IsNamedAt (own ∷ map v xs) (named_entry (map v xs) uri name) numbered
  named_next own uri name l numbered made same (n, found, (kind, at)) =
      let there : NumberedName = record { named = l.named; place = record { layer = i + 1; place = l.place } } in
      subst (IsNamedAt (own ∷ map v xs) (named_entry (map v xs) uri name)) (sym made)
      (subst (λ o. IsNamedAt (own ∷ map v xs) o there) (sym (same ∙ parents_step (λ w. named_entry w uri name) v xs i x within is))
      (near_name (IsNameAt (own ∷ map v xs) there) (v x) (map v (drop (i + 1) xs)) uri name (n, found, (kind, record { layer = v x; numbered = parent_layer own v xs i x within is; there = at }))))

  -- one that it hasn't means what it means in the layers after it
  pub named_beyond : (uri name : List ℕ) → named_entry (map v xs) uri name ≡ named_entry (map v (drop i xs)) uri name → last_named uri name (names (v x)) ≡ None
      → named_entry (map v xs) uri name ≡ named_entry (map v (drop (i + 1) xs)) uri name
  named_beyond uri name same none = same ∙ parents_step (λ w. named_entry w uri name) v xs i x within is ∙ far_name (v x) (map v (drop (i + 1) xs)) uri name none

-- ---- the entry of a name, or of a name under the base of the place there

known_step : (At : Named → Type 0) (found : Option Named) (fault : Fault) → (n : Named) × (found ≡ Some n) × At n → (n : Named) × (result_ok (ok_or found fault) ≡ Some n) × At n
known_step At None fault (n, is, at) = cc
known_step At (Some e) fault meant = meant

pub anchor_there : (At : Named → Type 0) (world : World) (uri name : List ℕ) → (n : Named) × (named_entry world uri name ≡ Some n) × At n → (n : Named) × (result_ok (anchor world uri name) ≡ Some n) × At n
unfolding anchor
anchor_there At world uri name meant =
    known_step At (option_or (named_entry world uri name) (named_by_identifier world uri name)) (not_named name) (near_name_step At (named_entry world uri name) (named_by_identifier world uri name) meant)

anchor_elsewhere : (At : Named → Type 0) (world : World) (uri name : List ℕ) → named_entry world uri name ≡ None → (n : Named) × (named_by_identifier world uri name ≡ Some n) × At n → (n : Named) × (result_ok (anchor world uri name) ≡ Some n) × At n
unfolding anchor
anchor_elsewhere At world uri name none meant =
    known_step At (option_or (named_entry world uri name) (named_by_identifier world uri name)) (not_named name)
    (subst (λ o. (n : Named) × (o ≡ Some n) × At n) (sym (far_name_step (named_entry world uri name) (named_by_identifier world uri name) none)) meant)

pub anchor_nowhere : (world : World) (uri name : List ℕ) → named_entry world uri name ≡ None → named_by_identifier world uri name ≡ None → anchor world uri name ≡ Err (not_named name)
unfolding anchor
anchor_nowhere world uri name none nothing =
    ap (λ o. ok_or o (not_named name)) (far_name_step (named_entry world uri name) (named_by_identifier world uri name) none ∙ nothing)

pub anchor_after : {L : Type 0} (At : L → Named → Type 0) (world : World) (uri name : List ℕ) (o : Option L) → named_entry world uri name ≡ None
    → MatchOption o (named_by_identifier world uri name ≡ None) (λ l. (n : Named) × (named_by_identifier world uri name ≡ Some n) × At l n)
    → MatchOption o (anchor world uri name ≡ Err (not_named name)) (λ l. (n : Named) × (result_ok (anchor world uri name) ≡ Some n) × At l n)
anchor_after At world uri name None none nothing = anchor_nowhere world uri name none nothing
anchor_after At world uri name (Some l) none meant = anchor_elsewhere (At l) world uri name none meant
