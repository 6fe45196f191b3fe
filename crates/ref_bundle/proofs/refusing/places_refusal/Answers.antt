use Rattle.std.proofs.Common.{◌≡◌, ℕ, List, None, Some, option_map, map, flat_map, ap, sym, ◌∙◌, arith, rules}
use Rattle.ref_definitions.specs.World.{Document, Layer, World}
use Rattle.ref_bundle.specs.Bundle.{BundleRefusal, place_refusals}
use Rattle.ref_bundle.specs.Saying.{further_of, refusal_said, seen_spot}
use Rattle.ref_bundle.specs.inner.Seen.{layer_in, numbered_document, numbered_part, HasPlaces}
use Rattle.ref_bundle.specs.Needed.{Seen, Further}
use Rattle.ref_bundle.specs.declared.own.Own.{Own}
use Rattle.ref_bundle.specs.declared.own.Spot.{Spot}
use Rattle.ref_bundle.specs.inner.First.{first, refusals_seen}
use Rattle.ref_bundle.proofs.Lists.{taken_all}
use Rattle.ref_bundle.proofs.Firsts.{found_here, none_more, of_places}
use Rattle.ref_bundle.proofs.refusing.places_refusal.Goals as goal

-- what refuses the places of a document refuses the document
all_are : (layer : Layer) (fs : Further) (world : World) (top : ℕ × Document) (own : Own) (items : List Spot) → items ≡ own.places.items → HasPlaces own
    → first (flat_map (refusals_seen layer fs world top own.uri.now) (map seen_spot items)) ≡ first (place_refusals layer fs world top (numbered_document own))
all_are layer fs world top own items lent places =
    ap (λ ss. first (flat_map (refusals_seen layer fs world top own.uri.now) ss)) (ap (map seen_spot) lent ∙ places) ∙ ap first (of_places layer fs world top (numbered_document own))

pub returns-in-Some : goal.returns-in-Some
returns-in-Some c =
    let l = c.loop-spot in
    let f : Seen → List BundleRefusal = refusals_seen (layer_in c.args.among.now.owns.now) (further_of c.args.among.now.further.now) c.args.among.now.bearers.now.registry.now (numbered_part c.args.among.now.top.now) c.args.own.now.uri.now in
    let said : option_map refusal_said c.in_ok-refusal.field-0 ≡ Some (refusal_said c.in-Some.refusal) = search rules in
    found_here f seen_spot c.deref-spot-items.result.now l.spot-index c.spot-item.result (refusal_said c.in-Some.refusal) c.loop-spot-test.true c.spot-item.is l.invariant (sym said ∙ c.in_ok-refusal.ensures)
    ∙ all_are (layer_in c.args.among.now.owns.now) (further_of c.args.among.now.further.now) c.args.among.now.bearers.now.registry.now (numbered_part c.args.among.now.top.now) c.args.own.now c.deref-spot-items.result.now c.deref-spot-items.ensures.value c.requires.places

pub returns : goal.returns
returns c =
    let items = c.deref-spot-items.result.now in
    let f : Seen → List BundleRefusal = refusals_seen (layer_in c.args.among.now.owns.now) (further_of c.args.among.now.further.now) c.args.among.now.bearers.now.registry.now (numbered_part c.args.among.now.top.now) c.args.own.now.uri.now in
    let all = all_are (layer_in c.args.among.now.owns.now) (further_of c.args.among.now.further.now) c.args.among.now.bearers.now.registry.now (numbered_part c.args.among.now.top.now) c.args.own.now items c.deref-spot-items.ensures.value c.requires.places in
    sym (sym all ∙ sym (ap (λ ss. first (flat_map f ss)) (taken_all seen_spot items c.loop-spot.spot-index (omega arith))) ∙ c.loop-spot.invariant)

pub loop-spot-preserved : goal.loop-spot-preserved
loop-spot-preserved c =
    let l = c.loop-spot in
    let f : Seen → List BundleRefusal = refusals_seen (layer_in c.args.among.now.owns.now) (further_of c.args.among.now.further.now) c.args.among.now.bearers.now.registry.now (numbered_part c.args.among.now.top.now) c.args.own.now.uri.now in
    let said : option_map refusal_said c.in_ok-refusal.field-0 ≡ None = search rules in
    none_more f seen_spot c.deref-spot-items.result.now l.spot-index c.spot-item.result c.loop-spot-test.true c.spot-item.is l.invariant (sym said ∙ c.in_ok-refusal.ensures)
