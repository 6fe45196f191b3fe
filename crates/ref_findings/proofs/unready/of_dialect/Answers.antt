use Rattle.std.proofs.Common.{Some, refl}
use Rattle.ref_index.specs.Meanings.{meta_schema_uri}
use Rattle.ref_findings.specs.Unmet.{refused_problem}
use Rattle.ref_findings.proofs.unready.of_dialect.Goals as goal

pub returns : goal.returns
returns c = c.refused.ensures (meta_schema_uri c.args.text.now) (λ meaning. refused_problem (Some meaning)) c.in-Err.ensures.value (λ refusal. refl)
