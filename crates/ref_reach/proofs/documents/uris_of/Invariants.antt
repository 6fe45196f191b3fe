use Rattle.std.proofs.Common.{◌≡◌, map, take}
use Rattle.ref_reach.specs.Views.{source_of}
use Rattle.ref_reach.proofs.documents.uris_of.Given as goal

abbrev pub invariant-loop-source : goal.invariant-loop-source
invariant-loop-source l = map (λ u. u.value) l.uris.items ≡ map (λ s. (source_of s).uri) (take l.source-index l.sources)
