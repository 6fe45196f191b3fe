use Rattle.std.proofs.Common.{ap, sym, ◌∙◌}
use Rattle.ref_yaml.proofs.OneLine.{double_line}
use Rattle.ref_yaml.proofs.text.double_text.Goals as goal

pub returns-in-Some : goal.returns-in-Some
returns-in-Some c =
    let is = rw c.in-Some.is at c.in_ok-line.ensures.value in
    record { value = sym is.1 ∙ double_line c.args.source.now is.0 }
