use Rattle.std.proofs.Common.{◌≡◌, map, take}
use Rattle.ref_bundle.specs.Needed.{referred_of}
use Rattle.ref_bundle.specs.Saying.{further_of}
use Rattle.ref_bundle.specs.inner.Seen.{layer_in, numbered_document}
use Rattle.ref_bundle.proofs.reach.all_referred.Given as goal

abbrev pub invariant-loop-own : goal.invariant-loop-own
invariant-loop-own l = map (λ n. n.items) l.lists.items ≡ map (λ o. referred_of (layer_in l.owns) (further_of l.further) (numbered_document o)) (take l.own-index l.owns)
