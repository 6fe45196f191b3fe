use Rattle.std.proofs.Common.{map}
use Rattle.ref_graphs.specs.Views.{step_of}
use Rattle.ref_graphs.specs.inner.Searching.{IsSearch, left}
use Rattle.ref_graphs.proofs.reaching.reached.Given as goal

abbrev pub invariant-loop-place : goal.invariant-loop-place
invariant-loop-place l = IsSearch l.count (map step_of l.steps) 0 0 l.search.flags.items l.search.waiting.items

abbrev pub decreases-loop-place : goal.decreases-loop-place
decreases-loop-place l = left l.search.flags.items l.search.waiting.items
