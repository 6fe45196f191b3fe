-- Steps from place to place that come back to where they began.
use Rattle.std.specs.Prelude.{ℕ, List, [], ◌∷◌, Bool, false, ◌&&◌, ◌==◌, slice_get}
use Rattle.std.specs.Option.{option_map_or}

-- A step from a place to another one that is applied to the same value, by the numbers of both
pub record Step : Type 0 where
  pub from : ℕ
  pub to : ℕ

-- whether steps, by their numbers among these, lead from a place to another one, each from where the one before it ended
abbrev pub leads : List Step → ℕ → List ℕ → ℕ → Bool
leads steps from [] to = from == to
leads steps from (n ∷ ns) to =
    option_map_or (λ s. s.from == from && leads steps s.to ns to) (slice_get steps n) false

-- Whether steps, of which there is one at least, come back to where the first began
abbrev pub is_circle : List Step → List ℕ → Bool
is_circle steps [] = false
is_circle steps (n ∷ ns) =
    option_map_or (λ s. leads steps s.to ns s.from) (slice_get steps n) false
