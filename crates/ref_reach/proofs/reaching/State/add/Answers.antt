use Rattle.std.proofs.Common.{subst, refl}
use Rattle.ref_descriptions.specs.Views.{reference_of}
use Rattle.ref_reach.specs.inner.Saying.{IsOutcome}
use Rattle.ref_reach.proofs.Following.{on_ok, add_place, add_wrong}
use Rattle.ref_reach.proofs.reaching.State.add.Goals as goal

pub returns-in-Leads : goal.returns-in-Leads
returns-in-Leads c = λ m is ps list count says.
    on_ok c.add.result _ _ (c.add.ensures.value ps says.seen)
    (λ seen. add_place c.args.self.now c.add.new.self m c.in-Leads.place c.args.number (reference_of c.args.reference) ps list count (subst (IsOutcome m) c.in-Leads.is is) says seen)

pub returns-in-Wrong : goal.returns-in-Wrong
returns-in-Wrong c = λ m is ps list count says.
    on_ok c.push.result _ _ c.push.ensures
    (λ items. add_wrong c.args.self.now _ m c.in-Wrong.problem _ c.args.number (reference_of c.args.reference) ps list count (subst (IsOutcome m) c.in-Wrong.is is) refl refl items
    (λ p means. (refl, refl, refl, refl, means)) says)
