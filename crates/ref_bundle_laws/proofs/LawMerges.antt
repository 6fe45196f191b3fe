-- Merged lists, and the levels below them.
use Rattle.std.proofs.Common.{◌≡◌, ℕ, zero, suc, List, [], ◌∷◌, ◌++◌, flat_map, refl, ap, ◌∙◌}
use Rattle.std.specs.List.{AllByRecursion}
use Rattle.ref_definitions.specs.Places.{Place, children_of, levels_below}
use Rattle.ref_bundle_laws.specs.Merges.{IsMerge, ended, from_first, from_second, IsMergeOf}

pub all_first : {X : Type 0} (xs : List X) → IsMerge X xs xs []
all_first [] = ended
all_first (x ∷ xs) = from_first x xs xs [] (all_first xs)

pub all_second : {X : Type 0} (ys : List X) → IsMerge X ys [] ys
all_second [] = ended
all_second (y ∷ ys) = from_second y ys [] ys (all_second ys)

pub merge_append : {X : Type 0} (all xs ys more vs ws : List X) → IsMerge X all xs ys → IsMerge X more vs ws → IsMerge X (all ++ more) (xs ++ vs) (ys ++ ws)
merge_append all xs ys more vs ws ended next = next
merge_append all xs ys more vs ws (from_first x rest us zs merge) next = from_first x (rest ++ more) (us ++ vs) (zs ++ ws) (merge_append rest us zs more vs ws merge next)
merge_append all xs ys more vs ws (from_second y rest us zs merge) next = from_second y (rest ++ more) (us ++ vs) (zs ++ ws) (merge_append rest us zs more vs ws merge next)

pub merge_flat : {X A : Type 0} (f : X → List A) (all xs ys : List X) → IsMerge X all xs ys → IsMerge A (flat_map f all) (flat_map f xs) (flat_map f ys)
merge_flat f all xs ys ended = ended
merge_flat f all xs ys (from_first x rest us zs merge) = merge_append (f x) (f x) [] (flat_map f rest) (flat_map f us) (flat_map f zs) (all_first (f x)) (merge_flat f rest us zs merge)
merge_flat f all xs ys (from_second y rest us zs merge) = merge_append (f y) [] (f y) (flat_map f rest) (flat_map f us) (flat_map f zs) (all_second (f y)) (merge_flat f rest us zs merge)

-- the levels below merged places are the levels below each, merged
pub merge_levels : (n : ℕ) (all xs ys : List Place) → IsMerge Place all xs ys → IsMerge Place (levels_below n all) (levels_below n xs) (levels_below n ys)
merge_levels zero all xs ys merge = ended
merge_levels (suc n) all xs ys merge =
    let next = merge_flat children_of all xs ys merge in
    merge_append (flat_map children_of all) (flat_map children_of xs) (flat_map children_of ys)
    (levels_below n (flat_map children_of all)) (levels_below n (flat_map children_of xs)) (levels_below n (flat_map children_of ys))
    next (merge_levels n (flat_map children_of all) (flat_map children_of xs) (flat_map children_of ys) next)

-- where nothing comes of the second list, what comes of the merged list comes of the first
pub quiet_second : {X A : Type 0} (f : X → List A) (all xs ys : List X) → IsMerge X all xs ys → AllByRecursion (λ y. f y ≡ []) ys → flat_map f all ≡ flat_map f xs
quiet_second f all xs ys ended none = refl
quiet_second f all xs ys (from_first x rest us zs merge) none = ap (λ more. f x ++ more) (quiet_second f rest us zs merge none)
quiet_second f all xs ys (from_second y rest us zs merge) none = ap (λ front. front ++ flat_map f rest) none.0 ∙ quiet_second f rest us zs merge none.1

pub quiet_first : {X A : Type 0} (f : X → List A) (all xs ys : List X) → IsMerge X all xs ys → AllByRecursion (λ x. f x ≡ []) xs → flat_map f all ≡ flat_map f ys
quiet_first f all xs ys ended none = refl
quiet_first f all xs ys (from_first x rest us zs merge) none = ap (λ front. front ++ flat_map f rest) none.0 ∙ quiet_first f rest us zs merge none.1
quiet_first f all xs ys (from_second y rest us zs merge) none = ap (λ more. f y ++ more) (quiet_first f rest us zs merge none)

-- each of several places, with the levels below it
pub each_alone : ℕ → List Place → List (List Place)
each_alone n [] = []
each_alone n (p ∷ ps) = (p ∷ levels_below n (p ∷ [])) ∷ each_alone n ps

pub nothing_below : (n : ℕ) → levels_below n [] ≡ []
nothing_below zero = refl
nothing_below (suc n) = nothing_below n

-- several places and the levels below them are those of each, merged
pub merge_of_each : (n : ℕ) (ps : List Place) → IsMergeOf Place (ps ++ levels_below n ps) (each_alone n ps)
unfolding each_alone
merge_of_each n [] = nothing_below n
merge_of_each n (p ∷ ps) = (
  ps ++ levels_below n ps,
  from_first p (ps ++ levels_below n (p ∷ ps)) (levels_below n (p ∷ [])) (ps ++ levels_below n ps)
      (merge_append ps [] ps (levels_below n (p ∷ ps)) (levels_below n (p ∷ [])) (levels_below n ps) (all_second ps)
      (merge_levels n (p ∷ ps) (p ∷ []) ps (from_first p ps [] ps (all_second ps)))),
  merge_of_each n ps,
)
