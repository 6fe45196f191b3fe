use Rattle.std.proofs.Common.{◌≡◌, ◌∙◌, ap, sym, map-id, ◌+◌, ◌++◌, List, map, flat_map, length, subst, rules}
use Rattle.std.proofs.lemmas.Iterator.Adapters.{YieldsList-from_vec}
use Rattle.std.proofs.lemmas.Iterator.Consumers.{YieldsList-end}
use Rattle.ref_descriptions.specs.References.{Reference, references}
use Rattle.ref_descriptions.specs.Views.{reference_of}
use Rattle.ref_reach.specs.Places.{Place}
use Rattle.ref_reach.specs.Reached.{Finding, place_in, finding_in}
use Rattle.ref_reach.specs.Views.{place_of}
use Rattle.ref_reach.specs.inner.Following.{around_of, with_new, Says}
use Rattle.ref_reach.proofs.Following.{step_with}
use Rattle.ref_reach.proofs.reaching.State.follow.Goals as goal

pub loop-reference-preserved : goal.loop-reference-preserved
loop-reference-preserved c = λ ps list count says.
    let a = around_of c.args.around in
    let p = place_of c.args.place.now in
    let g : Reference → List Place = λ r. place_in (a.outcome p r) in
    let h : Reference → List Finding = λ r. finding_in c.args.number r (a.outcome p r) in
    let passed = map reference_of c.loop-reference.yielded in
    let before = c.loop-reference.invariant ps list count says in
    step_with c.add.new.self c.saturating_add-self.result g h reference_of c.loop-reference.yielded c.in-Some.reference ps list count (search rules)
    (c.in_ok-add.ensures (a.outcome p (reference_of c.in-Some.reference)) c.in_ok-outcome.ensures (with_new ps (flat_map g passed)) (list ++ flat_map h passed) (count + length passed) before)

pub returns : goal.returns
returns c =
    let a = around_of c.args.around in
    let p = place_of c.args.place.now in
    let g : Reference → List Place = λ r. place_in (a.outcome p r) in
    let h : Reference → List Finding = λ r. finding_in c.args.number r (a.outcome p r) in
    let list_items = c.in_ok-reference-items.reference-items.items in
    let into = c.into_iter-reference-iterator.ensures.into_iter_gives in
    let end = YieldsList-end (YieldsList-from_vec list_items into.0 (into.1 ∙ (search rules))) c.loop-reference.yielded c.loop-reference.reference-iterator c.loop-reference.yielded_by c.next.result c.next.new.self c.in-None.is c.next.ensures.steps in
    let all : map reference_of c.loop-reference.yielded ≡ references p.reading p.value = ap (map reference_of) (sym (map-id c.loop-reference.yielded) ∙ end.0) ∙ c.in_ok-reference-items.ensures.value in
    λ ps list count says.
    subst (λ l. Says c.loop-reference.self (with_new ps (flat_map g l)) (list ++ flat_map h l) (count + length l)) all (c.loop-reference.invariant ps list count says)
