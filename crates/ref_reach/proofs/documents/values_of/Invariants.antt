use Rattle.std.proofs.Common.{◌≡◌, map, take}
use Rattle.serde_json.specs.View.{view}
use Rattle.ref_reach.specs.Views.{source_of}
use Rattle.ref_reach.proofs.documents.values_of.Given as goal

abbrev pub invariant-loop-source : goal.invariant-loop-source
invariant-loop-source l = map (λ v. view v.now) l.values.items ≡ map (λ s. (source_of s).tree) (take l.source-index l.sources)
