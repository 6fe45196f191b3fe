use Rattle.std.proofs.Common.{refl}
use Rattle.ref_findings.specs.Findings.{is_meta_schema}
use Rattle.ref_definitions.proofs.OnLiterals.{world_on_literals}
use Rattle.ref_findings.proofs.examples.other_references.Goals as goal

pub returns : goal.returns
unfolding world_on_literals is_meta_schema
returns c = record { no_text = refl; dynamic = refl; recursive = refl; recursive_root = refl; of_another_draft = refl }
