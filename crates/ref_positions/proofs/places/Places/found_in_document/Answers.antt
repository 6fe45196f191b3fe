use Rattle.std.proofs.Common.{◌≡◌, ◌<◌, length, ap, sym, subst, arith}
use Rattle.std.proofs.lemmas.List.{take_more}
use Rattle.std.proofs.lemmas.Grind.{common_steps}
use Rattle.std.proofs.Common.{List}
use Rattle.ref_yaml.specs.declared.event.Event.{Event}
use Rattle.ref_positions.specs.Events.{ArePassed, HasUnnamed}
use Rattle.ref_positions.proofs.Tokens.{one_more_event, all_passed, take_all, got, within_at, has_unnamed}
use Rattle.ref_positions.proofs.places.Places.found_in_document.Goals as goal

pub loop-number-preserved : goal.loop-number-preserved
loop-number-preserved c =
    let events = c.args.document.now.events in
    let same : length c.events-events.result.now ≡ length events.items = ap length c.events-events.ensures.value in
    let low : c.loop-number.number < length c.events-events.result.now = omega arith in
    one_more_event _ _ c.loop-number.walk c.pass_event.new.self c.events-events.result.now c.loop-number.number _ (omega (arith, same, events.ok.0, events.ok.1, events.small)) (take_more c.events-events.result.now c.loop-number.number _ low)
    (c.in_ok-pass_event.ensures.takes c.if-not-branch.false) c.loop-number.invariant

pub returns : goal.returns
returns c =
    let are = c.loop-number.invariant in
    let tree = are.3.tree in
    record {
      found = all_passed _ _ c.loop-number.walk c.args.document.now.events.items c.loop-number.number _
          (take_all _ _ (let same = ap length c.events-events.ensures.value in omega (arith, same)))
          (subst (λ (xs : List Event). ArePassed c.args.document.now.text.now c.args.self.now c.loop-number.walk xs c.loop-number.number) c.events-events.ensures.value are)
          (λ ps table. c.last_of.ensures.last ps tree (rw c.into_found.ensures.found table));
      refused = tt;
    }

pub returns-then-not-branch-clause-refused : goal.returns-then-not-branch-clause-refused
returns-then-not-branch-clause-refused c =
    let events = c.args.document.now.events in
    let same : length c.events-events.result.now ≡ length events.items = ap length c.events-events.ensures.value in
    let low : c.loop-number.number < length c.events-events.result.now = omega arith in
    subst (λ (xs : List Event). HasUnnamed c.args.document.now.text.now c.args.self.now xs) c.events-events.ensures.value
    (has_unnamed _ _ c.loop-number.walk c.events-events.result.now c.loop-number.number _ (got c.events-events.result.now c.loop-number.number _ low)
    (c.in_ok-pass_event.ensures.stops c.if-not-branch.true (within_at _ c.events-events.result.now c.loop-number.number _ c.events-events.ensures.within low)) c.loop-number.invariant)
