use Rattle.std.proofs.Common.{◌≡◌, false, None, Some, ap, bytes_eq, codes, rules}
use Rattle.std.specs.Prelude.{if◌then◌else◌}
use Rattle.ref_findings.specs.Findings.{RecursiveElsewhere}
use Rattle.ref_findings.proofs.problem.recursive_text_problem.Goals as goal

pub returns : goal.returns
returns c =
    let other : bytes_eq c.args.text.now (codes "#") ≡ false = search rules in
    (RecursiveElsewhere, ap (λ b. if b then None else Some RecursiveElsewhere) other, tt)
