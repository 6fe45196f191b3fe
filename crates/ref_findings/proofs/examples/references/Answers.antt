use Rattle.std.proofs.Common.{refl}
use Rattle.ref_findings.specs.Findings.{is_meta_schema}
use Rattle.ref_definitions.proofs.OnLiterals.{world_on_literals}
use Rattle.ref_findings.proofs.examples.references.Goals as goal

pub returns : goal.returns
unfolding world_on_literals is_meta_schema
returns c = record { pointer = refl; anchor = refl; missing = refl; held = refl; no_uri = refl; meta_schema = refl; fragment_of_a_meta_schema = refl }
