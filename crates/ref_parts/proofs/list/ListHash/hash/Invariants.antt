use Rattle.std.proofs.Common.{◌≡◌, fold, flat_map}
use Rattle.ref_parts.proofs.list.ListHash.hash.Given as goal

abbrev pub invariant-loop-item : goal.invariant-loop-item
invariant-loop-item g l = fold g.H.Hasher.write l.state (flat_map g.T.Hash.hash_input l.item-iterator) ≡ fold g.H.Hasher.write l.initial.state (flat_map g.T.Hash.hash_input l.self)
