use Rattle.std.proofs.Common.{sym, arith}
use Rattle.std.proofs.lemmas.Str.Pattern.{strip_prefix_char}
use Rattle.serde_json.specs.View.{view}
use Rattle.ref_parts.proofs.EvaluateLaws.{evaluate_nothing}
use Rattle.ref_parts.proofs.evaluate.pointer.Goals as goal

pub returns-in-None-clause-value : goal.returns-in-None-clause-value
returns-in-None-clause-value c =
    let other = rw c.in-None.is at (strip_prefix_char 47 c.args.pointer.now c.strip_prefix.result c.strip_prefix.ensures.cases (omega arith)) in
    sym (evaluate_nothing (view c.args.document.now) c.args.pointer.now (grind arith) other)
