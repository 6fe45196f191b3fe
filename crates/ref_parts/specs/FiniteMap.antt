-- A small map as the list of its entries, read at a key by the keys' `==`.
use Rattle.std.specs.Prelude.{◌≡◌, Bool, ◌++◌, List, [], ◌∷◌, Some, is_some, if◌then◌else◌}
use Rattle.std.specs.List.{AllZip}
use Rattle.std.specs.Map.{lookup, keys_of}

-- new is the finite map old with this value at the key: the keys of old stay where they are, and a new one comes last
pub record Puts {K V : Type 0} (eq : K → K → Bool) (old new : List (K × V)) (key : K)
    (value : V) : Type 0 where
  pub found : (q : K) → lookup (eq q) new ≡ (if eq key q then Some value else lookup (eq q) old)
  pub keys : keys_of new
      ≡ (if is_some (lookup (eq key) old) then keys_of old else keys_of old ++ key ∷ [])

-- entry by entry, the key is a clone by C and the value by D
abbrev pub IsClone : {K V : Type 0} (C : K → K → Type 0) (D : V → V → Type 0) → List (K × V)
    → List (K × V) → Type 0
IsClone C D entries copy = AllZip (λ e f. C e.0 f.0 × D e.1 f.1) entries copy
