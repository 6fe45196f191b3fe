-- Places that steps lead to from the first one, of number 0.
use Rattle.std.specs.Prelude.{◌≡◌, ℕ, List, Bool, true, false, ◌&&◌, nat_lt, slice_get}
use Rattle.std.specs.List.{list_all}
use Rattle.std.specs.Option.{option_map_or}
use Rattle.ref_graphs.specs.Circles.{Step, leads}

-- whether the step of a number begins and ends at one of so many places
abbrev pub is_between : ℕ → List Step → ℕ → Bool
is_between count steps n =
    option_map_or (λ s. nat_lt s.from count && nat_lt s.to count) (slice_get steps n) false

-- whether steps, by their numbers, each between places, lead from the first place to another one
abbrev pub leads_between : ℕ → List Step → List ℕ → ℕ → Bool
leads_between count steps ns place = list_all (is_between count steps) ns && leads steps 0 ns place

-- A place is reached where some numbers of steps lead to it so; the first one is, by no steps
abbrev pub IsReached : ℕ → List Step → ℕ → Type 0
IsReached count steps place = (ns : List ℕ) × (leads_between count steps ns place ≡ true)
