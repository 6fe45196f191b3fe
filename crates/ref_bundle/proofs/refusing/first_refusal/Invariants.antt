use Rattle.std.proofs.Common.{◌≡◌, [], map, flat_map, take, cond, None}
use Rattle.ref_bundle.specs.Bundle.{refusals_in}
use Rattle.ref_bundle.specs.inner.Reach.{is_marked}
use Rattle.ref_bundle.specs.inner.Seen.{numbered_document, layer_in, numbered_part}
use Rattle.ref_bundle.specs.inner.First.{first}
use Rattle.ref_bundle.proofs.refusing.first_refusal.Given as goal
use Rattle.ref_bundle.specs.Saying.{further_of}

abbrev pub invariant-loop-own : goal.invariant-loop-own
invariant-loop-own l =
    first (flat_map (λ e. cond (is_marked l.among.needed.now e.0) (refusals_in (layer_in l.among.owns.now) (further_of l.among.further.now) l.among.bearers.now.registry.now (numbered_part l.among.top.now) (map numbered_part l.among.parts.now) e) []) (map numbered_document (take l.own-index l.among.owns.now))) ≡ None
