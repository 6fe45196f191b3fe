use Rattle.std.proofs.Common.{map}
use Rattle.ref_graphs.specs.Views.{step_of}
use Rattle.ref_graphs.specs.inner.Searching.{from_of, AreChains}
use Rattle.ref_graphs.proofs.reaching.chains_of.Given as goal

abbrev pub invariant-loop-number : goal.invariant-loop-number
invariant-loop-number l = AreChains (from_of (map step_of l.steps)) l.count l.number l.last.items l.before.items
