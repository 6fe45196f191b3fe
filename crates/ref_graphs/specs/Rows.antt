-- Literals for rows that compute.
use Rattle.std.specs.Prelude.{ℕ, List}
use Rattle.ref_graphs.specs.Circles.{Step}
use Rattle.ref_graphs.specs.Closing.{Circle}
use Rattle.ref_graphs.specs.Rounds.{Lead, Round}

-- a step from a place to another one
abbrev pub step : ℕ → ℕ → Step
step from to = record { from = from; to = to }

-- a circle, by the step that closes it and all of its steps
abbrev pub circle : ℕ → ℕ → List ℕ → Circle
circle closing size steps = record { closing = closing; size = size; steps = steps }

-- a reference, by the places from which the value comes to it and the one that it leads to
abbrev pub lead : List ℕ → ℕ → Lead
lead fronts to = record { fronts = fronts; to = to }

-- a round, by the reference that closes it and all of them
abbrev pub round : ℕ → ℕ → List ℕ → Round
round closing size leads = record { closing = closing; size = size; leads = leads }
