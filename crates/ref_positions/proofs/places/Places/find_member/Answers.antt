use Rattle.ref_positions.proofs.Paths.{found_is}
use Rattle.ref_positions.proofs.places.Places.find_member.Goals as goal

pub returns : goal.returns
returns c = record { value = rw (← c.self.view_is) (λ p at. found_is c.self.inside.tree.entries.items c.self.inside.tree.index c.find_member.result c.args.place _ p c.self.invariant c.find_member.ensures.some c.find_member.ensures.none at) }
