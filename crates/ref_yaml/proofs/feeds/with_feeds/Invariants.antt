use Rattle.std.proofs.Common.{◌≡◌, ◌++◌, false, drop}
use Rattle.ref_yaml.specs.Flow.{with_feeds}
use Rattle.ref_yaml.proofs.feeds.with_feeds.Given as goal

abbrev pub invariant-loop-byte : goal.invariant-loop-byte
invariant-loop-byte l = l.out.items ++ with_feeds l.was_return (drop l.byte-index l.source) ≡ with_feeds false l.source
