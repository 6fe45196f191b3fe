use Rattle.std.proofs.Common.{◌-◌, length}
use Rattle.ref_uri.specs.inner.Written.{IsNormalUpTo}
use Rattle.ref_uri.proofs.written.normal_len.Given as goal

abbrev pub invariant-triples : goal.invariant-triples
invariant-triples l = IsNormalUpTo l.text l.at

abbrev pub decreases-triples : goal.decreases-triples
decreases-triples l = length l.text - l.at
