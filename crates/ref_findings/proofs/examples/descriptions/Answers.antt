use Rattle.std.proofs.Common.{refl}
use Rattle.ref_findings.specs.Findings.{is_meta_schema}
use Rattle.ref_definitions.proofs.OnLiterals.{world_on_literals}
use Rattle.ref_findings.proofs.examples.descriptions.Goals as goal

pub returns : goal.returns
unfolding world_on_literals is_meta_schema
returns c = record { openapi = refl; no_text = refl; other = refl }
