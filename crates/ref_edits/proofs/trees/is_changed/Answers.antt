use Rattle.std.proofs.Common.{◌≡◌, ◌∷◌, ◌++◌, [], subst, sym, true, rules}
use Rattle.ref_edits.specs.Changed as spec
use Rattle.ref_edits.specs.inner.Waiting.{AllAfter}
use Rattle.ref_edits.proofs.Changing.{all_with}
use Rattle.ref_edits.proofs.trees.is_changed.Goals as goal

pub loop-preserved : goal.loop-preserved
loop-preserved c = λ all.
    let w = spec.wanted_of c.args.wanted.now in
    let kept : c.in_ok-is_kept.field-0 ≡ true = search rules in
    let both = c.in_ok-is_kept.ensures kept all in
    let items : c.loop.waiting.items ≡ c.pop.new.self.items ++ c.in-Some.pair ∷ [] = c.in-Some.ensures.items in
    c.loop.invariant (subst (AllAfter w) (sym items) (all_with w c.pop.new.self.items c.in-Some.pair both.0 both.1))
