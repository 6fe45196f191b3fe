use Rattle.std.proofs.Common.{◌≡◌, ◌<◌, ◌≤◌, map, length, slice_get, option_map, refl, ap, sym, ◌∙◌, arith}
use Rattle.std.proofs.lemmas.List.{length-map}
use Rattle.ref_descriptions.specs.Views.{reference_of}
use Rattle.ref_reach.specs.Views.{place_of}
use Rattle.ref_comparison.specs.Further.{reference_whats}
use Rattle.ref_comparison.specs.Views.{sides_of, what_of}
use Rattle.ref_comparison.specs.inner.Pairs.{whats_at}
use Rattle.ref_comparison.proofs.Telling.{first_from, found_at, past_at, end_at, says}
use Rattle.ref_comparison.proofs.pairs.lists_what.Goals as goal

pub loop-index-init : goal.loop-index-init
loop-index-init c = (omega arith, refl)

pub returns-in-Some : goal.returns-in-Some
returns-in-Some c =
    let list = map reference_of c.args.list.now in
    let others = map reference_of c.args.others.now in
    let here = ap (option_map what_of) (sym c.in-Some.is) ∙ c.in_ok-what.ensures in
    found_at (sides_of c.args.sides.now) (place_of c.args.place.now) (place_of c.args.other.now) list others c.loop-index.index (what_of c.in-Some.what) here
    ∙ sym c.loop-index.invariant.1

pub loop-index-preserved : goal.loop-index-preserved
loop-index-preserved c =
    let list = map reference_of c.args.list.now in
    let others = map reference_of c.args.others.now in
    let here = ap (option_map what_of) (sym c.in_default.is) ∙ c.in_ok-what.ensures in
    let test = c.loop-index-test.true in
    let within : c.loop-index.index < length list = omega (arith, test, length-map c.args.list.now reference_of) in (
      omega (arith, test),
      c.loop-index.invariant.1 ∙ past_at (sides_of c.args.sides.now) (place_of c.args.place.now) (place_of c.args.other.now) list others c.loop-index.index within here,
    )

pub returns : goal.returns
returns c =
    let s = sides_of c.args.sides.now in
    let p = place_of c.args.place.now in
    let q = place_of c.args.other.now in
    let list = map reference_of c.args.list.now in
    let others = map reference_of c.args.others.now in
    let until = c.loop-index.invariant.0 in
    let ended : c.loop-index.index ≡ length c.args.list.now = omega (arith, until) in
    let past : length list ≤ length c.args.list.now = omega (arith, length-map c.args.list.now reference_of) in
    says c.what_at-2.result (whats_at s p q (slice_get list (length c.args.list.now)) (slice_get others (length c.args.list.now))) (reference_whats s p q list others)
    (end_at s p q list others (length c.args.list.now) past ∙ ap (first_from s p q list others) (sym ended) ∙ sym c.loop-index.invariant.1)
    c.what_at-2.ensures
