use Rattle.std.proofs.Common.{◌≡◌, ◌≤◌, ◌<◌, ℕ, Some, length, map, vec_len}
use Rattle.ref_graphs.specs.Views.{step_of}
use Rattle.ref_graphs.specs.inner.Searching.{from_of, after, IsSearch, left}
use Rattle.ref_graphs.proofs.reaching.Search.pass.Given as goal

abbrev pub invariant-loop-next : goal.invariant-loop-next
invariant-loop-next l = record {
  search : IsSearch (vec_len l.initial.self.flags) (map step_of l.steps) l.place (after l.next) l.self.flags.items l.self.waiting.items;
  begins : (n : ℕ) → l.next ≡ Some n → (n < length l.steps) × (from_of (map step_of l.steps) n ≡ l.place);
  left : left l.self.flags.items l.self.waiting.items ≤ left l.initial.self.flags.items l.initial.self.waiting.items;
}

abbrev pub decreases-loop-next : goal.decreases-loop-next
decreases-loop-next l = after l.next
