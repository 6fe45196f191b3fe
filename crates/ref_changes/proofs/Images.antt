-- Where a path is, part by part.
use Rattle.std.proofs.Common.{◌≡◌, ℕ, ◌+◌, ◌<◌, ◌≤◌, List, [], ◌∷◌, ◌++◌, map, take, drop, length, get_or, refl, ap, sym, ◌∙◌, arith}
use Rattle.std.specs.List.{slice_range}
use Rattle.std.specs.Option.{unwrap_or}
use Rattle.ref_paths.specs.Path.{Part}
use Rattle.ref_index.specs.Spots.{Spot}
use Rattle.ref_changes.specs.Moves.{Address, Moves, moved, address_below, image_along}
use Rattle.std.proofs.lemmas.List.{drop_all}
use Rattle.ref_changes.proofs.Lists.{taken_more_at, dropped, one_of}

-- a spot of the beginning of a path
abbrev pub spot_until : {X : Type 0} → (X → Part) → ℕ → List X → ℕ → Spot
spot_until v document xs i = record { document = document; path = map v (take i xs) }

step_more : {X : Type 0} (v : X → Part) (moves : Moves) (document : ℕ) (xs : List X) (i : ℕ) (d : X) (at next : Address) → i < length xs
    → next ≡ unwrap_or (moved moves (spot_until v document xs (i + 1))) (address_below at (map v (slice_range xs i (i + 1))))
    → image_along moves (spot_until v document xs i) at (map v (drop i xs)) ≡ image_along moves (spot_until v document xs (i + 1)) next (map v (drop (i + 1) xs))
step_more v moves document xs i d at next within is =
    let y = get_or xs i d in
    let rest = map v (drop (i + 1) xs) in
    let grown : map v (take (i + 1) xs) ≡ map v (take i xs) ++ v y ∷ [] = taken_more_at v xs i d within in
    let there = λ (p : List Part). image_along moves (record { document = document; path = p }) (unwrap_or (moved moves (record { document = document; path = p })) (address_below at (v y ∷ []))) rest in
    ap (λ l. image_along moves (spot_until v document xs i) at (map v l)) (dropped xs i d within)
    ∙ ap there (sym grown)
    ∙ ap (λ a. image_along moves (spot_until v document xs (i + 1)) a rest)
    (sym (is ∙ ap (λ l. unwrap_or (moved moves (spot_until v document xs (i + 1))) (address_below at (map v l))) (one_of xs i d within)))

-- with one more part
pub one_more : {X : Type 0} (v : X → Part) (moves : Moves) (document : ℕ) (xs : List X) (i : ℕ) (at next : Address) → i < length xs
    → next ≡ unwrap_or (moved moves (spot_until v document xs (i + 1))) (address_below at (map v (slice_range xs i (i + 1))))
    → image_along moves (spot_until v document xs i) at (map v (drop i xs)) ≡ image_along moves (spot_until v document xs (i + 1)) next (map v (drop (i + 1) xs))
one_more v moves document [] i at next within is = absurd (omega (arith, within))
one_more v moves document (x ∷ xs) i at next within is = step_more v moves document (x ∷ xs) i x at next within is

-- with all of them
pub all_parts : {X : Type 0} (v : X → Part) (moves : Moves) (s : Spot) (xs : List X) (i : ℕ) (at : Address) → length xs ≤ i
    → image_along moves s at (map v (drop i xs)) ≡ at
all_parts v moves s xs i at all = ap (λ l. image_along moves s at (map v l)) (drop_all i xs all)
