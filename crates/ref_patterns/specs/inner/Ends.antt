-- The ends of a path, and which of them a pattern matches.
use Rattle.std.specs.Prelude.{◌≡◌, ◌+◌, ◌-◌, ℕ, zero, suc, List, [], ◌∷◌, ◌++◌, Bool, length, drop}
use Rattle.ref_patterns.specs.declared.pattern.Part.{Part}
use Rattle.ref_patterns.specs.Patterns.{matches}

-- the last k bytes of a path
abbrev pub end_of : List ℕ → ℕ → List ℕ
end_of s k = drop (length s - k) s

-- whether parts match the last 0 bytes of a path, the last one, and so on, for n ends
abbrev pub matched : List Part → List ℕ → ℕ → List Bool
matched p s zero = []
matched p s (suc k) = matched p s k ++ matches p (end_of s k) ∷ []

-- whether parts match each end of a path
abbrev pub AreOf : List Part → List ℕ → List Bool → Type 0
AreOf p s items = items ≡ matched p s (length s + 1)
