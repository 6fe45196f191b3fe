use Rattle.std.proofs.Common.{◌≡◌, true, Some, ap, rules}
use Rattle.std.specs.Prelude.{if◌then◌else◌}
use Rattle.ref_findings.specs.Bearers.{begins_with_slash}
use Rattle.ref_findings.specs.Findings.{NamesNothing, name_problem}
use Rattle.ref_findings.specs.inner.Seen.{site_of, known_in}
use Rattle.ref_findings.proofs.known.Known.of_anchor.Goals as goal

pub returns-then-starts_with : goal.returns-then-starts_with
returns-then-starts_with c =
    let slash : begins_with_slash c.args.name.now ≡ true = search rules in
    record { value = (NamesNothing, ap (λ b. if b then Some NamesNothing else name_problem (known_in c.args.self.now) c.args.number (site_of c.args.site.now) c.args.name.now) slash, tt) }
