use Rattle.std.proofs.Common.{◌≡◌, map, take}
use Rattle.ref_bundle.specs.Bundle.{embedded_document}
use Rattle.ref_bundle.specs.Saying.{embedded_said}
use Rattle.ref_bundle.specs.inner.Seen.{numbered_part}
use Rattle.ref_bundle.proofs.assembling.all_embedded.Given as goal

abbrev pub invariant-loop-part : goal.invariant-loop-part
invariant-loop-part l = map embedded_said l.list.items ≡ map (embedded_document l.draft) (map numbered_part (take l.part-index l.parts))
