use Rattle.std.proofs.Common.{◌≡◌, false, None, Some, ap, refl, rules}
use Rattle.std.specs.Prelude.{if◌then◌else◌}
use Rattle.ref_findings.specs.Findings.{UnknownDialect, is_dialect}
use Rattle.ref_findings.specs.inner.Seen.{known_in}
use Rattle.ref_findings.proofs.known.Known.of_dialect_uri.Goals as goal

pub returns : goal.returns
returns c =
    let k = known_in c.args.self.now in
    let uri = c.args.uri.value in
    let other : is_dialect k uri ≡ false = search rules in
    (UnknownDialect uri, ap (λ b. if b then None else Some (UnknownDialect uri)) other, refl)
