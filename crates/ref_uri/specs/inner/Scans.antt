-- Where scans of characters and triples stop.
use Rattle.std.specs.Prelude.{ℕ, Bool, false, ◌||◌, ◌&&◌, List, [], ◌∷◌, length, ◌==◌, slice_index}
use Rattle.ref_uri.specs.Characters.{begins_with_hex_digits}
use Rattle.ref_uri.specs.Components.{ends_authority}
use Rattle.ref_uri.specs.Bytes.{percent}

-- the text begins with a triple (2.1)
abbrev pub begins_with_triple : List ℕ → Bool
begins_with_triple [] = false
begins_with_triple (c ∷ rest) = (c == percent) && begins_with_hex_digits rest

-- the text begins with a character that is allowed, or with a triple
abbrev pub begins_encoded : (ℕ → Bool) → List ℕ → Bool
begins_encoded allowed [] = false
begins_encoded allowed (c ∷ rest) = allowed c || begins_with_triple (c ∷ rest)

-- the text ends at this place, or what ends an authority is there
abbrev pub ends_authority_at : List ℕ → ℕ → Bool
ends_authority_at text at = (at == length text) || ends_authority (slice_index text at)
