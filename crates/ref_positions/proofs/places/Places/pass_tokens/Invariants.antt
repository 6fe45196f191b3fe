use Rattle.json.specs.Lex.{tokens}
use Rattle.ref_positions.proofs.Json.{AreRead}
use Rattle.ref_positions.proofs.places.Places.pass_tokens.Given as goal

abbrev pub invariant-loop-number : goal.invariant-loop-number
invariant-loop-number l = AreRead (tokens l.text) l.reader l.self l.walk l.number
