-- Lists to which what is new is added.
use Rattle.std.specs.Prelude.{ℕ, zero, suc, Bool, List, [], ◌∷◌, ◌++◌, if◌then◌else◌, slice_get, length, ◌+◌}
use Rattle.std.specs.Option.{option_map_or}
use Rattle.std.specs.List.{fold, list_any}

abbrev pub is_in : {X : Type 0} → (X → X → Bool) → List X → X → Bool
is_in same xs x = list_any (λ y. same y x) xs

abbrev pub with_one : {X : Type 0} → (X → X → Bool) → List X → X → List X
with_one same xs x = if is_in same xs x then xs else xs ++ x ∷ []

abbrev pub with_new : {X : Type 0} → (X → X → Bool) → List X → List X → List X
with_new same xs more = fold (with_one same) xs more

abbrev pub next_at : {X : Type 0} → (X → List X) → List X → ℕ → List X
next_at next xs number = option_map_or next (slice_get xs number) []

abbrev pub followed : {X : Type 0} → (X → X → Bool) → (X → List X) → List X → ℕ → List X
followed same next start zero = with_new same [] start
followed same next start (suc n) = with_new same (followed same next start n) (next_at next (followed same next start n) n)

-- what so many of them give, each with its number from k on
abbrev pub given_by : {X Y : Type 0} → (X → X → Bool) → (X → List X) → List X → (ℕ × X → List Y) → ℕ → ℕ → List Y
given_by same next start f k zero = []
given_by same next start f k (suc n) =
    given_by same next start f k n ++ option_map_or (λ p. f (k + n, p)) (slice_get (followed same next start n) n) []

abbrev pub counted_by : {X Y : Type 0} → (X → X → Bool) → (X → List X) → List X → (X → List Y) → ℕ → ℕ
counted_by same next start f zero = 0
counted_by same next start f (suc n) =
    counted_by same next start f n + option_map_or (λ p. length (f p)) (slice_get (followed same next start n) n) 0
