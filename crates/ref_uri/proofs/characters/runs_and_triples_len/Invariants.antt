use Rattle.std.proofs.Common.{length, ◌-◌}
use Rattle.ref_uri.proofs.RunLemmas.{RunAfter}
use Rattle.ref_uri.proofs.characters.runs_and_triples_len.Given as goal

-- what was passed is a text of the class, after which no character of the class follows
abbrev pub invariant-triples : goal.invariant-triples
invariant-triples l = RunAfter l.class l.bytes l.at

abbrev pub decreases-triples : goal.decreases-triples
decreases-triples l = length l.bytes - l.at
