use Rattle.std.proofs.Common.{◌≡◌, length, map, vec_len}
use Rattle.ref_graphs.specs.Views.{step_of}
use Rattle.ref_graphs.specs.inner.Circling.{trace_of, IsStack, Holds, Kept, measure}
use Rattle.ref_graphs.proofs.circles.Search.search_on.Given as goal

abbrev pub invariant-loop-alloc : goal.invariant-loop-alloc
invariant-loop-alloc l = record {
  places : vec_len l.self.states ≡ vec_len l.initial.self.states;
  stack : IsStack (vec_len l.initial.self.states) (map step_of l.steps) (trace_of l.self l.list.items);
  holds : Holds (vec_len l.initial.self.states) (map step_of l.steps) (trace_of l.initial.self l.initial.list.items) → Holds (vec_len l.initial.self.states) (map step_of l.steps) (trace_of l.self l.list.items);
  kept : Kept (trace_of l.initial.self l.initial.list.items) (trace_of l.self l.list.items);
}

abbrev pub decreases-loop-alloc : goal.decreases-loop-alloc
decreases-loop-alloc l = measure (length l.steps) (trace_of l.self l.list.items)
