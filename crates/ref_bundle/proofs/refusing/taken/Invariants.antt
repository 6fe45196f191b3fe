use Rattle.std.proofs.Common.{◌≡◌, map, flat_map, take, None}
use Rattle.serde_json.specs.View.{view}
use Rattle.ref_bundle.specs.inner.Seen.{numbered_part}
use Rattle.ref_bundle.specs.inner.First.{first, taken_in}
use Rattle.ref_bundle.proofs.refusing.taken.Given as goal

abbrev pub invariant-loop-part : goal.invariant-loop-part
invariant-loop-part l = first (flat_map (taken_in l.top l.keyword (view l.value)) (map numbered_part (take l.part-index l.parts))) ≡ None
