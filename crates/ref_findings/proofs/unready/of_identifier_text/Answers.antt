use Rattle.std.proofs.Common.{Some, refl}
use Rattle.ref_uri.specs.Targets.{uri_against}
use Rattle.ref_findings.specs.Unmet.{refused_problem}
use Rattle.ref_findings.proofs.unready.of_identifier_text.Goals as goal

pub returns : goal.returns
returns c = c.refused.ensures (uri_against c.args.outer.now.value c.args.id.now) (λ meaning. refused_problem (Some meaning)) c.in-Err.ensures.value (λ refusal. refl)
