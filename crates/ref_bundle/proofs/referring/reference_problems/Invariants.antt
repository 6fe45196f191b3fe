use Rattle.std.proofs.Common.{◌≡◌, map, flat_map, take, None}
use Rattle.ref_bundle.specs.Bundle.{reference_problems}
use Rattle.ref_bundle.specs.inner.Seen.{layer_in, numbered_part, seen_reference}
use Rattle.ref_bundle.specs.inner.First.{first}
use Rattle.ref_bundle.proofs.referring.reference_problems.Given as goal
use Rattle.ref_bundle.specs.Saying.{further_of}

abbrev pub invariant-loop-reference : goal.invariant-loop-reference
invariant-loop-reference l = first (flat_map (reference_problems (layer_in l.among.owns.now) (further_of l.among.further.now) l.among.bearers.now.registry.now (numbered_part l.among.top.now)) (map seen_reference (take l.reference-index l.reference-items))) ≡ None
