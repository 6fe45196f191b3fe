-- Paths into a value, and what numbers stand for.
use Rattle.std.specs.Prelude.{ℕ, suc, ◌==◌, ◌&&◌, Bool, true, false, cond, List, [], ◌∷◌, Option, Some, None, get_or, option_map}
use Rattle.std.specs.Str.{bytes_eq}

-- a step from a value to one that is in it: to a member by its key, or to an item by its index
pub data Step : Type 0 where
  member : List ℕ → Step
  item : ℕ → Step

-- a path from the whole value, its last step first
abbrev pub Path : Type 0
Path = List Step

-- the path that is a step below that of a number, where numbers stand for these paths or for none
abbrev pub below : List (Option Path) → ℕ → Step → Option Path
below paths number step = option_map (λ p. step ∷ p) (get_or paths number None)

-- whether two steps are the same
abbrev pub same_step : Step → Step → Bool
same_step (member key) (member other) = bytes_eq key other
same_step (item index) (item other) = index == other
same_step (member key) (item other) = false
same_step (item index) (member other) = false

abbrev pub same_path : Path → Path → Bool
same_path [] [] = true
same_path [] (t ∷ q) = false
same_path (s ∷ p) [] = false
same_path (s ∷ p) (t ∷ q) = same_step s t && same_path p q

-- the number that stands for a path, where there is one
abbrev pub number_of : List (Option Path) → Path → Option ℕ
number_of [] p = None
number_of (None ∷ ps) p = option_map suc (number_of ps p)
number_of (Some q ∷ ps) p = cond (same_path q p) (Some 0) (option_map suc (number_of ps p))
