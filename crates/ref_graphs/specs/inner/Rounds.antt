-- The steps of references, and the rounds of circles of steps.
use Rattle.std.specs.Prelude.{ℕ, ◌+◌, List, [], ◌∷◌, ◌++◌, map, flat_map, slice_index_or}
use Rattle.ref_graphs.specs.Circles.{Step}
use Rattle.ref_graphs.specs.Closing as closing
use Rattle.ref_graphs.specs.Rounds.{Lead, Round}

abbrev pub step_to : ℕ → ℕ → Step
step_to to from = record { from = from; to = to }

-- a step from each place from which the same value comes to a reference
abbrev pub steps_at : Lead → List Step
steps_at l = map (step_to l.to) l.fronts

abbrev pub steps_of : List Lead → List Step
steps_of leads = flat_map steps_at leads

-- of each of these steps the number of the reference
abbrev pub numbers_at : ℕ → Lead → List ℕ
numbers_at n l = map (λ f. n) l.fronts

abbrev pub numbers_from : ℕ → List Lead → List ℕ
numbers_from n [] = []
numbers_from n (l ∷ ls) = numbers_at n l ++ numbers_from (n + 1) ls

-- the number of the reference of a step
abbrev pub by_of : List ℕ → ℕ → ℕ
by_of by k = slice_index_or by k 0

-- a circle of steps as one of references
abbrev pub round_at : List ℕ → closing.Circle → Round
round_at by c = record { closing = by_of by c.closing; size = c.size; leads = map (by_of by) c.steps }
