-- The entries of a small map by its slots, or as it is hashed, and their places.
use Rattle.std.specs.Prelude.{◌≡◌, ℕ, ◌+◌, ◌<◌, ◌≤◌, Bool, true, take, drop, ◌++◌, List, [], ◌∷◌, length, Option, Some, None, ⊤}
use Rattle.std.specs.Map.{lookup}
use Rattle.ref_parts.specs.declared.small_map.Form.{Form}
use Rattle.ref_parts.specs.declared.small_map.Form.TheVariants.{Small, Large}

-- the pairs that inline slots hold
abbrev pub pairs : {K V : Type 0} → List (Option (K × V)) → List (K × V)
pairs [] = []
pairs (None ∷ slots) = pairs slots
pairs (Some pair ∷ slots) = pair ∷ pairs slots

-- each slot holds a pair
abbrev pub AllHold : {K V : Type 0} → List (Option (K × V)) → Type 0
AllHold [] = ⊤
AllHold (None ∷ slots) = ⊥
AllHold (Some pair ∷ slots) = AllHold slots

-- the entries of either form
abbrev pub entries_of : {K V : Type 0} {n : ℕ} → Form K V n → List (K × V)
entries_of (Small slots) = pairs slots.items
entries_of (Large map) = map.entries

-- no two keys are equal
abbrev pub EachOnce : {K V : Type 0} (eq : K → K → Bool) → List (K × V) → Type 0
EachOnce eq [] = ⊤
EachOnce eq (e ∷ es) = (lookup (eq e.0) es ≡ None) × EachOnce eq es

-- inline up to n keys, each once, and hashed from n + 1 on
abbrev pub IsFormOf : {K V : Type 0} (eq : K → K → Bool) (n : ℕ) → Form K V n → Type 0
IsFormOf eq n (Small slots) =
    AllHold slots.items × (length slots.items ≤ n) × EachOnce eq (pairs slots.items)
IsFormOf eq n (Large map) = n < length map.entries

-- the first slot whose key is equal
pub record IsPlaceOf {K V : Type 0} (eq : K → K → Bool) (key : K) (slots : List (Option (K × V)))
    (i : ℕ) : Type 0 where
  pub within : i < length slots
  pub first : lookup (eq key) (pairs (take i slots)) ≡ None
  pub here : (old : K × V) × (slots ≡ take i slots ++ (Some old ∷ drop (i + 1) slots))
      × (eq key old.0 ≡ true)

-- the first entry whose key is equal is at this place
pub record IsAt {K V : Type 0} (eq : K → K → Bool) (key : K) (entries : List (K × V))
    (place : ℕ) : Type 0 where
  pub front : List (K × V)
  pub pair : K × V
  pub back : List (K × V)
  pub cut : entries ≡ front ++ pair ∷ back
  pub after : length front ≡ place
  pub first : lookup (eq key) front ≡ None
  pub here : eq key pair.0 ≡ true
