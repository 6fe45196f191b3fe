use Rattle.std.proofs.Common.{◌≡◌, Bool, true, not, sym, subst, rules}
use Rattle.ref_reach.specs.declared.reaching.State.{State}
use Rattle.ref_reach.specs.Places.{Place}
use Rattle.ref_reach.specs.Views.{place_of}
use Rattle.ref_reach.specs.inner.Following.{around_of, with_new, Says}
use Rattle.ref_reach.proofs.Following.{on_ok, kept_one}
use Rattle.ref_reach.proofs.reaching.State.add_new.Goals as goal

pub returns : goal.returns
returns c = λ ps list count says.
    let p = place_of c.args.place in
    let f : Place → Bool = λ q. not ((around_of c.args.around).is_own q) in
    let so : f p ≡ true = search rules in
    let s : State = record { reached = c.add.new.self; findings = c.args.self.now.findings; references = c.args.self.now.references } in
    on_ok c.add.result _ _ (c.add.ensures.value ps says.seen)
    (λ seen. subst (λ l. Says s (with_new ps l) list count) (sym (kept_one f p so)) (record { seen = seen; found = says.found; counted = says.counted }))
