use Rattle.std.proofs.Common.{◌≡◌, map, take}
use Rattle.ref_reach.specs.Held.{held_source}
use Rattle.ref_reach.specs.Views.{source_of}
use Rattle.ref_reach.proofs.documents.walked_of.Given as goal

abbrev pub invariant-loop-source : goal.invariant-loop-source
invariant-loop-source l = l.walked ≡ map (held_source l.draft) (map source_of (take l.source-index l.sources))
