-- Steps from definitions to those that they are in.
use Rattle.std.specs.Prelude.{ℕ, List, map}
use Rattle.std.specs.List.{enumerate_from}
use Rattle.ref_graphs.specs.Circles.{Step}

-- a step from each definition to the one that it is in
abbrev pub outward : List ℕ → List Step
outward around = map (λ e. record { from = e.0; to = e.1 }) (enumerate_from 1 around)
