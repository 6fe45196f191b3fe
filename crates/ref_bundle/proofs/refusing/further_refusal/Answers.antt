use Rattle.std.proofs.Common.{◌≡◌, List, None, Some, slice_get, option_map, map, flat_map, ap, sym, ◌∙◌, arith, rules}
use Rattle.ref_bundle.specs.Needed.{Seen}
use Rattle.ref_bundle.specs.Bundle.{BundleRefusal, seen_refusals}
use Rattle.ref_bundle.specs.Saying.{further_of, refusal_said, seen_spot}
use Rattle.ref_bundle.specs.inner.Seen.{layer_in, numbered_part}
use Rattle.ref_bundle.specs.inner.First.{first}
use Rattle.ref_bundle.proofs.Lists.{got, taken_all}
use Rattle.ref_bundle.proofs.Firsts.{found_here, none_more}
use Rattle.ref_bundle.proofs.Gathering.{further_there}
use Rattle.ref_bundle.proofs.refusing.further_refusal.Goals as goal

pub returns-in-Some-2 : goal.returns-in-Some-2
returns-in-Some-2 c =
    let l = c.loop-spot in
    let f : Seen → List BundleRefusal = seen_refusals (layer_in c.args.among.now.owns.now) (further_of c.args.among.now.further.now) c.args.among.now.bearers.now.registry.now (numbered_part c.args.among.now.top.now) in
    let said : option_map refusal_said c.in_ok-refusal.field-0 ≡ Some (refusal_said c.in-Some-2.refusal) = search rules in
    let spots = c.in-Some.spots.now in
    let there : slice_get c.args.among.now.further.now c.args.number ≡ Some spots = sym (got c.args.among.now.further.now c.args.number c.get.result c.get.ensures.lookup) ∙ search rules in
    found_here f seen_spot c.deref-spot-items.result.now l.spot-index c.spot-item.result (refusal_said c.in-Some-2.refusal) c.loop-spot-test.true c.spot-item.is l.invariant (sym said ∙ c.in_ok-refusal.ensures)
    ∙ ap (λ ss. first (flat_map f ss)) (ap (map seen_spot) c.deref-spot-items.ensures.value ∙ sym (further_there c.args.among.now.further.now c.args.number spots there))

pub returns : goal.returns
returns c =
    let f : Seen → List BundleRefusal = seen_refusals (layer_in c.args.among.now.owns.now) (further_of c.args.among.now.further.now) c.args.among.now.bearers.now.registry.now (numbered_part c.args.among.now.top.now) in
    let spots = c.in-Some.spots.now in
    let there : slice_get c.args.among.now.further.now c.args.number ≡ Some spots = sym (got c.args.among.now.further.now c.args.number c.get.result c.get.ensures.lookup) ∙ search rules in
    let all = ap (λ ss. first (flat_map f ss)) (taken_all seen_spot c.deref-spot-items.result.now c.loop-spot.spot-index (omega arith) ∙ ap (map seen_spot) c.deref-spot-items.ensures.value ∙ sym (further_there c.args.among.now.further.now c.args.number spots there)) in
    sym (sym all ∙ c.loop-spot.invariant)

pub loop-spot-preserved : goal.loop-spot-preserved
loop-spot-preserved c =
    let l = c.loop-spot in
    let f : Seen → List BundleRefusal = seen_refusals (layer_in c.args.among.now.owns.now) (further_of c.args.among.now.further.now) c.args.among.now.bearers.now.registry.now (numbered_part c.args.among.now.top.now) in
    let said : option_map refusal_said c.in_ok-refusal.field-0 ≡ None = search rules in
    none_more f seen_spot c.deref-spot-items.result.now l.spot-index c.spot-item.result c.loop-spot-test.true c.spot-item.is l.invariant (sym said ∙ c.in_ok-refusal.ensures)
