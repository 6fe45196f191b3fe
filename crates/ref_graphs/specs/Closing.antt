-- Steps that close circles: without them there is no circle, and none of them can be spared, a minimal feedback arc set.
use Rattle.std.specs.Prelude.{◌≡◌, ℕ, ◌+◌, ◌<◌, ◌⊎◌, List, [], ◌∷◌, ◌++◌, length, All, AllPairs, Bool, true, false, not, ◌&&◌, ◌==◌}
use Rattle.std.specs.List.{list_all, list_any, sum_by}
use Rattle.ref_graphs.specs.Circles.{Step, is_circle}
use Rattle.ref_graphs.specs.Reaching.{is_between}

-- A circle that is told: the step that closes it, how many steps it has, and these, that one last, or none, where there would be too many
pub record Circle : Type 0 where
  pub closing : ℕ
  pub size : ℕ
  pub steps : List ℕ

-- whether a step closes one of these circles
abbrev pub is_closing : List Circle → ℕ → Bool
is_closing circles n = list_any (λ c. c.closing == n) circles

-- whether a step is between places, and closes none of these circles
abbrev pub is_other : ℕ → List Step → List Circle → ℕ → Bool
is_other count steps circles n = is_between count steps n && not (is_closing circles n)

-- Its steps come back, and of these only the last one closes any circle
abbrev pub IsClosed : ℕ → List Step → List Circle → Circle → Type 0
IsClosed count steps circles c =
    (ns : List ℕ) × (list_all (is_other count steps circles) ns ≡ true)
    × (is_between count steps c.closing ≡ true)
    × (is_circle steps (ns ++ c.closing ∷ []) ≡ true) × (length ns + 1 ≡ c.size)
    × ((c.steps ≡ []) ⊎ (c.steps ≡ ns ++ c.closing ∷ []))

-- Each of these circles is closed so
abbrev pub AreClosed : ℕ → List Step → List Circle → Type 0
AreClosed count steps circles = All (IsClosed count steps circles) circles

-- Without the steps that close these circles there is none
abbrev pub AreAll : ℕ → List Step → List Circle → Type 0
AreAll count steps circles =
    (ns : List ℕ) → list_all (is_other count steps circles) ns ≡ true → is_circle steps ns ≡ false

-- No two of them are closed by the same step
abbrev pub AreApart : List Circle → Type 0
AreApart circles = AllPairs (λ c d. c.closing ≡ d.closing → ⊥) circles

-- Where the steps of one aren't told, all of them have more steps together than this
abbrev pub AreShown : List Circle → Type 0
AreShown circles = All (λ c. c.steps ≡ [] → 65536 < sum_by (λ d. d.size) circles) circles
