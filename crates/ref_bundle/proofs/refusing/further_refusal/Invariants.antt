use Rattle.std.proofs.Common.{◌≡◌, map, flat_map, take, None}
use Rattle.ref_bundle.specs.Bundle.{seen_refusals}
use Rattle.ref_bundle.specs.Saying.{further_of, seen_spot}
use Rattle.ref_bundle.specs.inner.Seen.{layer_in, numbered_part}
use Rattle.ref_bundle.specs.inner.First.{first}
use Rattle.ref_bundle.proofs.refusing.further_refusal.Given as goal

abbrev pub invariant-loop-spot : goal.invariant-loop-spot
invariant-loop-spot l = first (flat_map (seen_refusals (layer_in l.among.owns.now) (further_of l.among.further.now) l.among.bearers.now.registry.now (numbered_part l.among.top.now)) (map seen_spot (take l.spot-index l.spot-items))) ≡ None
