-- Paths as a client has them.
use Rattle.std.specs.Prelude.{ℕ, ◌==◌, ◌&&◌, ◌||◌, Bool, false, List, [], ◌∷◌}

abbrev pub begins_with_slash : List ℕ → Bool
begins_with_slash [] = false
begins_with_slash (b ∷ path) = b == 47

-- a path begins with a step to the same folder, or up: `./` or `../`
abbrev pub begins_with_dots : List ℕ → Bool
begins_with_dots [] = false
begins_with_dots (a ∷ []) = false
begins_with_dots (a ∷ b ∷ path) =
    a == 46 && (b == 47 || (b == 46 && begins_with_slash path))

-- such a step is in a path after a slash
abbrev pub has_dots : List ℕ → Bool
has_dots [] = false
has_dots (b ∷ path) = (b == 47 && begins_with_dots path) || has_dots path
