-- Which token of a reference's fragment stands for a value.
use Rattle.std.specs.Prelude.{ℕ, Bool, true, false, ◌&&◌, ◌==◌, ◌+◌, ◌-◌, List, [], ◌∷◌, nat_lt, if◌then◌else◌, Option, Some, None}
use Rattle.ref_parts.specs.Pointer.{slash}

-- how many tokens a JSON Pointer has (RFC 6901, 3): each begins with a slash
abbrev pub depth_of : List ℕ → ℕ
depth_of [] = 0
depth_of (c ∷ rest) = if c == slash then depth_of rest + 1 else depth_of rest

-- The token that stands for the last step to a value at the depth `moved`, where a fragment with so many tokens leads to the depth `led`: it begins at a resource
-- that is as many steps above where it leads as it has tokens. None where that resource is the value, or in it
abbrev pub token_below : ℕ → ℕ → Option ℕ
token_below moved resource =
    if nat_lt resource moved then Some (moved - resource - 1) else None

abbrev pub token_for : ℕ → ℕ → ℕ → Option ℕ
token_for moved led tokens =
    if nat_lt led tokens then None else token_below moved (led - tokens)

-- whether a pointer goes on at the end of a token
abbrev pub ends_token : List ℕ → Bool
ends_token [] = true
ends_token (c ∷ rest) = c == slash

-- whether what is at a pointer is the value at another one, or is in it
abbrev pub is_within : List ℕ → List ℕ → Bool
is_within pointer [] = ends_token pointer
is_within [] (c ∷ outer) = false
is_within (b ∷ pointer) (c ∷ outer) = (b == c) && is_within pointer outer
