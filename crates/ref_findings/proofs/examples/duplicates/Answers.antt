use Rattle.std.proofs.Common.{refl}
use Rattle.ref_findings.specs.Findings.{is_meta_schema}
use Rattle.ref_definitions.proofs.OnLiterals.{world_on_literals}
use Rattle.ref_findings.proofs.examples.duplicates.Goals as goal

pub returns : goal.returns
unfolding world_on_literals is_meta_schema
returns c = record { identifiers = refl; uri_of_a_source = refl; its_own = refl; anchors = refl; no_name = refl; of_two_resources = refl; plain_and_dynamic = refl }
