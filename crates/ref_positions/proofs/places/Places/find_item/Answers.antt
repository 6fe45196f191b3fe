use Rattle.ref_positions.proofs.Paths.{found_is}
use Rattle.ref_positions.proofs.places.Places.find_item.Goals as goal

pub returns : goal.returns
returns c = record { value = rw (← c.self.view_is) (λ p at. found_is c.self.inside.tree.entries.items c.self.inside.tree.index c.find_item.result c.args.place _ p c.self.invariant c.find_item.ensures.some c.find_item.ensures.none at) }
