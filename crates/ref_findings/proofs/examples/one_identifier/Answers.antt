use Rattle.std.proofs.Common.{refl}
use Rattle.ref_findings.specs.Findings.{is_meta_schema}
use Rattle.ref_definitions.proofs.OnLiterals.{world_on_literals}
use Rattle.ref_findings.proofs.examples.one_identifier.Goals as goal

pub returns : goal.returns
unfolding world_on_literals is_meta_schema
returns c = record { own_references = refl; others = refl; pointer = refl }
