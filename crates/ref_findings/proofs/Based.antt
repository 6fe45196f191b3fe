-- What a place's own URI says of its base.
use Rattle.std.proofs.Common.{◌≡◌, ℕ, List, true, false, Option, Some, None, Result, Ok, Err, is_some, ap, sym, refl}
use Rattle.std.specs.Prelude.{option_and_then}
use Rattle.std.specs.Result.{result_ok}
use Rattle.serde_json.specs.Data.{Data}
use Rattle.ref_paths.specs.Path.{Part}
use Rattle.ref_draft.specs.declared.draft.Draft.{Draft}
use Rattle.ref_draft.specs.Schema.{identifier}
use Rattle.ref_uri.specs.Targets.{Refusal, uri_against}
use Rattle.ref_definitions.specs.Places.{base_within}
use Rattle.ref_definitions.specs.Resources.{own_uri}
use Rattle.ref_index.specs.Visit.{place_with}
use Rattle.ref_findings.specs.Places.{nearest_of, nearest_base, is_refused}

-- a value without an identifier has none
pub none_own : (path : List Part) (value : Data) (draft : Draft) (outer : List ℕ) → identifier draft value ≡ None → own_uri (place_with path value draft outer) ≡ None
none_own path value draft outer none = ap (λ id. option_and_then (λ i. result_ok (base_within outer id)) id) none

-- one with an identifier has what that means
pub own_is : (path : List Part) (value : Data) (draft : Draft) (outer id : List ℕ) → identifier draft value ≡ Some id → own_uri (place_with path value draft outer) ≡ result_ok (uri_against outer id)
own_is path value draft outer id some = ap (λ x. option_and_then (λ i. result_ok (base_within outer x)) x) some

ok_is : (meaning : Result (List ℕ) Refusal) (uri : List ℕ) → Some uri ≡ result_ok meaning → meaning ≡ Ok uri
ok_is (Ok u) uri is = cc
ok_is (Err refusal) uri is = cc

base_by : (outer uri : List ℕ) (id : Option (List ℕ)) → Some uri ≡ option_and_then (λ i. result_ok (base_within outer id)) id → base_within outer id ≡ Ok uri
base_by outer uri None is = cc
base_by outer uri (Some id) is = ok_is (uri_against outer id) uri is

-- where it has a URI of its own, that is its base
pub base_is : (path : List Part) (value : Data) (draft : Draft) (outer uri : List ℕ) → Some uri ≡ own_uri (place_with path value draft outer) → base_within outer (identifier draft value) ≡ Ok uri
base_is path value draft outer uri is = base_by outer uri (identifier draft value) is

-- and the nearest one
pub near_own : (path : List Part) (value : Data) (draft : Draft) (outer uri : List ℕ) → Some uri ≡ own_uri (place_with path value draft outer) → uri ≡ nearest_base (place_with path value draft outer)
near_own path value draft outer uri is = sym (ap (nearest_of outer) (base_is path value draft outer uri is))

near_refused : (outer : List ℕ) (meaning : Result (List ℕ) Refusal) → None ≡ result_ok meaning → outer ≡ nearest_of outer meaning
near_refused outer (Ok u) is = cc
near_refused outer (Err refusal) is = refl

near_by : (outer : List ℕ) (id : Option (List ℕ)) → None ≡ option_and_then (λ i. result_ok (base_within outer id)) id → outer ≡ nearest_of outer (base_within outer id)
near_by outer None is = refl
near_by outer (Some id) is = near_refused outer (uri_against outer id) is

-- where it has none, the nearest base is that around it
pub near_outer : (path : List Part) (value : Data) (draft : Draft) (outer : List ℕ) → None ≡ own_uri (place_with path value draft outer) → outer ≡ nearest_base (place_with path value draft outer)
near_outer path value draft outer is = near_by outer (identifier draft value) is

refused_meaning : (meaning : Result (List ℕ) Refusal) → None ≡ result_ok meaning → true ≡ is_refused (Some meaning)
refused_meaning (Ok u) is = cc
refused_meaning (Err refusal) is = refl

refused_id : (outer : List ℕ) (id : Option (List ℕ)) → None ≡ option_and_then (λ i. result_ok (base_within outer id)) id → is_some id ≡ is_refused (Some (base_within outer id))
refused_id outer None is = refl
refused_id outer (Some id) is = refused_meaning (uri_against outer id) is

-- its identifier means no URI where it has one and no URI of its own
pub refused_by : (path : List Part) (value : Data) (draft : Draft) (outer : List ℕ) → None ≡ own_uri (place_with path value draft outer) → is_some (identifier draft value) ≡ is_refused (Some (base_within outer (identifier draft value)))
refused_by path value draft outer is = refused_id outer (identifier draft value) is

-- and means one where it has one of its own
pub not_refused : (path : List Part) (value : Data) (draft : Draft) (outer uri : List ℕ) → Some uri ≡ own_uri (place_with path value draft outer) → false ≡ is_refused (Some (base_within outer (identifier draft value)))
not_refused path value draft outer uri is = sym (ap (λ b. is_refused (Some b)) (base_is path value draft outer uri is))
