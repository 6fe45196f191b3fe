use Rattle.std.proofs.Common.{◌≡◌, None, Some, ap, rules}
use Rattle.std.specs.Option.{option_map_or}
use Rattle.serde_json.specs.Find.{as_str}
use Rattle.serde_json.specs.View.{view}
use Rattle.ref_findings.specs.Findings.{NotAText, recursive_text_problem}
use Rattle.ref_findings.proofs.problem.recursive_problem.Goals as goal

pub returns-in-None : goal.returns-in-None
returns-in-None c =
    let none : as_str (view c.args.value.now) ≡ None = search rules in
    (NotAText, ap (λ o. option_map_or recursive_text_problem o (Some NotAText)) none, tt)
