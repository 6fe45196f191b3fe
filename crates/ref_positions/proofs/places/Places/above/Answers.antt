use Rattle.std.proofs.Common.{◌≡◌, Some, None, get_or, subst, arith}
use Rattle.std.proofs.lemmas.Grind.{common_steps}
use Rattle.ref_positions.specs.Places.{paths_from}
use Rattle.std.proofs.Common.{[]}
use Rattle.ref_positions.specs.declared.places.Entry.{Entry}
use Rattle.ref_positions.proofs.Tree.{above_is, low_is}
use Rattle.ref_positions.proofs.places.Places.above.Goals as goal

pub returns-then-number-len : goal.returns-then-number-len
returns-then-number-len c = record { above = rw (← c.self.view_is) (λ s p at. absurd (let low = low_is c.self.inside.tree.entries.items c.args.number _ at in grind (arith, common_steps))) }

pub returns : goal.returns
returns c = record {
  above = rw (← c.self.view_is) (λ s p at.
      let es = c.self.inside.tree.entries.items in
      let h = above_is es c.args.number c.index.result.now s p at in
      let e : get_or es c.args.number c.index.result.now ≡ c.index.result.now = grind (arith, common_steps) in
      (subst (λ (x : Entry). get_or (paths_from [] es) x.above None ≡ Some p) e h.2, rw e at h.1));
}
