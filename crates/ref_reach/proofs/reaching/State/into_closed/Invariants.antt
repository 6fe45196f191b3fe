use Rattle.std.proofs.Common.{ℕ, ◌+◌, List, [], ◌++◌}
use Rattle.ref_reach.specs.Reached.{Finding}
use Rattle.ref_reach.specs.inner.Following.{around_of, beginning, with_new, followed, wrong_in, count_in, Says}
use Rattle.ref_reach.proofs.reaching.State.into_closed.Given as goal

abbrev pub invariant-loop-number : goal.invariant-loop-number
invariant-loop-number l =
    let a = around_of l.around in
    (list : List Finding) (count : ℕ) → Says l.initial.state (with_new [] (beginning a)) list count
    → Says l.state (followed a l.number) (list ++ wrong_in a l.number) (count + count_in a l.number)
