use Rattle.std.proofs.Common.{◌≡◌, ◌++◌, false, drop}
use Rattle.ref_yaml.specs.Flow.{with_quotes}
use Rattle.ref_yaml.proofs.feeds.with_quotes.Given as goal

abbrev pub invariant-loop-byte : goal.invariant-loop-byte
invariant-loop-byte l = l.out.items ++ with_quotes l.was_quote (drop l.byte-index l.source) ≡ with_quotes false l.source
