use Rattle.std.proofs.Common.{[], arith}
use Rattle.ref_positions.proofs.Paths.{count}
use Rattle.ref_positions.proofs.Tree.{tree_of}
use Rattle.ref_positions.proofs.places.Places.len.Goals as goal

pub returns : goal.returns
returns c = record {
  value = rw (← c.self.view_is) (grind (arith, count [] c.self.inside.tree.entries.items));
  tree = rw (← c.self.view_is) (tree_of c.self.inside.tree.entries.items c.self.inside.tree.index c.self.invariant);
}
