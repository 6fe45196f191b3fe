use Rattle.std.proofs.Common.{◌≡◌, ◌-◌, ◌++◌}
use Rattle.ref_yaml.specs.Flow.{feeds}
use Rattle.ref_yaml.proofs.fold.push_feeds.Given as goal

abbrev pub invariant-loop : goal.invariant-loop
invariant-loop l = l.out.items ++ feeds (l.fn.count - l.counter) ≡ l.fn.out.items ++ feeds l.fn.count
