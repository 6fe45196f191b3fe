use Rattle.ref_parts.proofs.table.TableEntries.reserve_times.Goals as goal

pub invariant_of-self : goal.invariant_of-self
invariant_of-self g c = rw c.reserve.ensures.items c.self.invariant

pub invariant_of-self-2 : goal.invariant_of-self-2
invariant_of-self-2 g c = rw c.reserve-2.ensures.items (rw c.reserve.ensures.items c.self.invariant)
