-- What holds in a search for the places that are reached.
use Rattle.std.specs.Prelude.{◌≡◌, ℕ, ◌+◌, ◌<◌, ◌⊎◌, List, [], ◌∷◌, ◌++◌, length, Bool, true, false, not, if◌then◌else◌, Option, Some, None, slice_get, slice_index_or, count_by}
use Rattle.std.specs.List.{Contains}
use Rattle.std.specs.Option.{option_map_or}
use Rattle.ref_graphs.specs.Circles.{Step}
use Rattle.ref_graphs.specs.Reaching.{IsReached}

-- where the step of a number begins
abbrev pub from_of : List Step → ℕ → ℕ
from_of steps n = option_map_or (λ s. s.from) (slice_get steps n) 0

-- one more than a number, or 0
abbrev pub after : Option ℕ → ℕ
after None = 0
after (Some n) = n + 1

-- Of the first steps, the last one that begins at each of so many places, and the one before each that begins where it does
pub record AreChains (from : ℕ → ℕ) (count steps : ℕ) (last before : List (Option ℕ)) : Type 0 where
  pub places : length last ≡ count
  pub numbers : length before ≡ steps
  pub is_last : (n : ℕ) → n < steps → from n < count → n < after (slice_index_or last (from n) None)
  pub begins : (place n : ℕ) → slice_index_or last place None ≡ Some n
      → (n < steps) × (from n ≡ place)
  pub none_between : (n m : ℕ) → m < n → n < steps → from n < count → from m ≡ from n
      → m < after (slice_index_or before n None)
  pub is_before : (n m : ℕ) → slice_index_or before n None ≡ Some m
      → (m < n) × (from m ≡ from n)

-- Each place with a flag is reached, each that waits has one, and so has each to which a step leads from one that has one and doesn't wait: but for the first
-- steps of one place
pub record IsSearch (count : ℕ) (steps : List Step) (place end : ℕ) (flags : List Bool) (waiting : List ℕ) : Type 0 where
  pub places : length flags ≡ count
  pub first : 0 < count → slice_index_or flags 0 false ≡ true
  pub are_reached : (p : ℕ) → slice_index_or flags p false ≡ true → IsReached count steps p
  pub wait : (p : ℕ) → Contains waiting p → slice_index_or flags p false ≡ true
  pub lead : (n : ℕ) (s : Step) → slice_get steps n ≡ Some s
      → slice_index_or flags s.from false ≡ true → s.to < count
      → (slice_index_or flags s.to false ≡ true)
      ⊎ (Contains waiting s.from ⊎ ((s.from ≡ place) × (n < end)))

-- how many places have no flag, or wait
abbrev pub left : List Bool → List ℕ → ℕ
left flags waiting = count_by not flags + length waiting

-- those that wait, with a place, unless it had a flag before or there is no such place
abbrev pub with_waiting : List Bool → List ℕ → ℕ → List ℕ
with_waiting flags waiting p = waiting ++ (if slice_index_or flags p true then [] else p ∷ [])
