use Rattle.std.proofs.Common.{◌≡◌, map, option_map}
use Rattle.serde_json.specs.View.{view}
use Rattle.ref_findings.specs.inner.Seen.{seen_survey}
use Rattle.ref_findings.proofs.survey.mended_of.Given as goal

abbrev pub invariant-loop-survey : goal.invariant-loop-survey
invariant-loop-survey l = map (option_map view) l.trees.items ≡ map (λ s. (seen_survey s).mended) l.yielded
