-- Definitions that are used, and those that nothing uses. Definitions have numbers from 1 on; 0 is what is in none. A list says, of each definition, the number of
-- the one that it is in; a use leads from a place, by the innermost definition that it is in, to or into a definition, by the innermost one.
use Rattle.std.specs.Prelude.{◌≡◌, ℕ, ◌+◌, ◌≤◌, ◌↔◌, List, length, map, filter, Bool, true, false, not, ◌&&◌, ◌||◌, IsTrue, slice_index_or}
use Rattle.std.specs.List.{list_all, enumerate_from}
use Rattle.ref_graphs.specs.Circles.{Step}

-- whether a set that has one number has another one, too. A number that is none of theirs counts for nothing
abbrev pub is_led : List Bool → ℕ → ℕ → Bool
is_led set from to = not (slice_index_or set from false) || slice_index_or set to true

-- whether a set has what is in no definition; with a place what its uses lead to; and with a definition the one that it is in
abbrev pub is_closed : List ℕ → List Step → List Bool → Bool
is_closed around uses set =
    slice_index_or set 0 false
    && (list_all (λ u. is_led set u.from u.to) uses
    && list_all (λ e. is_led set e.0 e.1) (enumerate_from 1 around))

-- A definition is used where it is in the smallest of such sets, and so in each of them
abbrev pub IsUsed : List ℕ → List Step → ℕ → Type 0
IsUsed around uses d =
    (set : List Bool) → length set ≡ length around + 1 → is_closed around uses set ≡ true
    → slice_index_or set d false ≡ true

-- the numbers of definitions, in their order
abbrev pub numbers : List ℕ → List ℕ
numbers around = map (λ e. e.0) (enumerate_from 1 around)

-- These are the definitions that aren't used, in their order
abbrev pub AreUnused : List ℕ → List Step → List ℕ → Type 0
AreUnused around uses unused =
    (used : List Bool)
    × ((d : ℕ) → d ≤ length around → (IsTrue (slice_index_or used d false) ↔ IsUsed around uses d))
    × (unused ≡ filter (λ d. not (slice_index_or used d false)) (numbers around))
