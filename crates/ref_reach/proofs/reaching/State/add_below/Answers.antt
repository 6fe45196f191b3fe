use Rattle.std.proofs.Common.{◌≡◌, ◌∙◌, sym, map-id, Bool, not, map, filter, subst, rules}
use Rattle.std.proofs.lemmas.Iterator.Adapters.{YieldsList-from_vec}
use Rattle.std.proofs.lemmas.Iterator.Consumers.{YieldsList-end}
use Rattle.ref_reach.specs.Places.{Place}
use Rattle.ref_reach.specs.Views.{place_of}
use Rattle.ref_reach.specs.inner.Following.{around_of, with_new, Says}
use Rattle.ref_reach.proofs.Following.{step_below}
use Rattle.ref_reach.proofs.reaching.State.add_below.Goals as goal

pub loop-place-preserved : goal.loop-place-preserved
loop-place-preserved c = λ ps list count says.
    let f : Place → Bool = λ q. not ((around_of c.args.around).is_own q) in
    let before = c.loop-place.invariant ps list count says in
    step_below c.add_new.new.self f place_of c.loop-place.yielded c.in-Some.place ps list count
    (c.in_ok-add_new.ensures (with_new ps (filter f (map place_of c.loop-place.yielded))) list count before)

pub returns : goal.returns
returns c =
    let f : Place → Bool = λ q. not ((around_of c.args.around).is_own q) in
    let into = c.into_iter-place-iterator.ensures.into_iter_gives in
    let end = YieldsList-end (YieldsList-from_vec c.args.below.items into.0 (into.1 ∙ (search rules))) c.loop-place.yielded c.loop-place.place-iterator c.loop-place.yielded_by c.next.result c.next.new.self c.in-None.is c.next.ensures.steps in
    let all : c.loop-place.yielded ≡ c.args.below.items = sym (map-id c.loop-place.yielded) ∙ end.0 in
    λ ps list count says.
    subst (λ l. Says c.loop-place.self (with_new ps (filter f (map place_of l))) list count) all (c.loop-place.invariant ps list count says)
