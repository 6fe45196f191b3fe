use Rattle.std.proofs.Common.{◌++◌, map, flat_map, take, ap, sym, ◌∙◌, append_assoc, append-nil, arith}
use Rattle.ref_reach.specs.Views.{place_of}
use Rattle.ref_changes.proofs.Lists.{taken_all, joined_more}
use Rattle.ref_comparison.specs.inner.Grouped.{placed_at, group_in, numbers_at}
use Rattle.ref_comparison.proofs.Groups.{one_placed}
use Rattle.ref_comparison.proofs.after.add_all.Goals as goal

pub loop-index-init : goal.loop-index-init
loop-index-init c = λ lists is q. sym (append-nil (group_in lists c.args.numbers.now q))

pub loop-index-preserved : goal.loop-index-preserved
loop-index-preserved c = λ lists is q.
    let l = c.loop-index in
    let p = c.index-places-index.result in
    let places = c.args.places.now in
    let before = group_in lists c.args.numbers.now q in
    one_placed lists q (numbers_at l.numbers q) (numbers_at c.add_number.new.numbers q) (record { list = c.args.list; index = l.index }) c.in_ok-text.text
    places p is c.loop-index-test.true c.index-places-index.is c.in_ok-text.ensures (c.in_ok-add_number.ensures q)
    ∙ ap (λ ps. ps ++ placed_at q (place_of p)) (l.invariant lists is q)
    ∙ append_assoc before (flat_map (placed_at q) (map place_of (take l.index places))) (placed_at q (place_of p))
    ∙ ap (λ ps. before ++ ps) (sym (joined_more (placed_at q) place_of places l.index p c.loop-index-test.true c.index-places-index.is))

pub returns : goal.returns
returns c = λ lists is q.
    c.loop-index.invariant lists is q
    ∙ ap (λ ps. group_in lists c.args.numbers.now q ++ flat_map (placed_at q) ps) (taken_all place_of c.args.places.now c.loop-index.index (omega arith))
