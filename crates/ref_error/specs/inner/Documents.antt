-- The documents that a map of them has.
use Rattle.std.specs.Prelude.{◌≡◌, ℕ, List, None, bytes_eq}
use Rattle.std.specs.HashMap.{HashMap, get}
use Rattle.std.specs.Map.{update_all}
use Rattle.serde_json.specs.declared.value.Value.{Value}

-- the map has under each URI the last of these values
abbrev pub AreLast : {S : Type 0} → HashMap (List ℕ) Value S → List (List ℕ × Value) → Type 0
AreLast documents given =
    (uri : List ℕ) → get bytes_eq documents uri ≡ update_all bytes_eq (λ _. None) given uri
