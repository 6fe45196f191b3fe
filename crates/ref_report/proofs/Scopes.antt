-- The line of a scope.
use Rattle.std.proofs.Common.{ℕ, List, ◌++◌, codes, flat_map}

-- the URIs, each after a space
abbrev pub uris : List (List ℕ) → List ℕ
uris scope = flat_map (λ uri. codes " " ++ uri) scope
