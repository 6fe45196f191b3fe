use Rattle.std.proofs.Common.{refl}
use Rattle.ref_findings.specs.Findings.{by_dialect}
use Rattle.ref_findings.specs.inner.Seen.{known_in}
use Rattle.ref_index.specs.Meanings.{meta_schema_uri}
use Rattle.ref_findings.proofs.known.Known.of_dialect.Goals as goal

pub returns-in-Err : goal.returns-in-Err
returns-in-Err c = c.refused.ensures (meta_schema_uri c.args.text.now) (by_dialect (known_in c.args.self.now)) c.in-Err.ensures.value (λ refusal. refl)
