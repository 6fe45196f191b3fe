use Rattle.std.proofs.Common.{ℕ, List, map, filter, not}
use Rattle.ref_reach.specs.Places.{Place}
use Rattle.ref_reach.specs.Reached.{Finding}
use Rattle.ref_reach.specs.Views.{place_of}
use Rattle.ref_reach.specs.inner.Following.{around_of, with_new, Says}
use Rattle.ref_reach.proofs.reaching.State.add_below.Given as goal

abbrev pub invariant-loop-place : goal.invariant-loop-place
invariant-loop-place l =
    (places : List Place) (list : List Finding) (count : ℕ) → Says l.initial.self places list count
    → Says l.self (with_new places (filter (λ q. not ((around_of l.around).is_own q)) (map place_of l.yielded))) list count
