use Rattle.std.proofs.Common.{refl}
use Rattle.ref_uri.specs.Targets.{uri_against}
use Rattle.ref_findings.specs.Findings.{by_base}
use Rattle.ref_findings.specs.inner.Seen.{known_in}
use Rattle.ref_findings.proofs.known.Known.of_identifier_text.Goals as goal

pub returns-in-Err : goal.returns-in-Err
returns-in-Err c = c.refused.ensures (uri_against c.args.outer.now.value c.args.id.now) (by_base (known_in c.args.self.now) c.args.number) c.in-Err.ensures.value (λ refusal. refl)
