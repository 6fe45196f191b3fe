use Rattle.std.proofs.Common.{◌≡◌, ◌≤◌, length}
use Rattle.json.specs.Lex.{tokens}
use Rattle.ref_calls.specs.Why.{is_deep}
use Rattle.ref_calls.proofs.why.is_deep.Given as goal

abbrev pub invariant-loop-token : goal.invariant-loop-token
invariant-loop-token l = (is_deep l.levels l.reader ≡ is_deep 0 (tokens l.text)) × (l.levels ≤ 127)

abbrev pub decreases-loop-token : goal.decreases-loop-token
decreases-loop-token l = length l.reader
