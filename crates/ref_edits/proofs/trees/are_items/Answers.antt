use Rattle.std.proofs.Common.{subst, arith, length, ◌<◌, ◌≤◌}
use Rattle.serde_json.specs.View.{view}
use Rattle.ref_edits.specs.Changed as spec
use Rattle.ref_edits.proofs.Changing.{next_items, no_items_left}
use Rattle.ref_edits.proofs.trees.are_items.Goals as goal

pub loop-index-preserved : goal.loop-index-preserved
loop-index-preserved c = λ w all items.
    let i = c.loop-index.index in
    let vs = c.args.items.now in
    let ns = c.args.now.now in
    let v = c.index-items-index.result in
    let n = c.index-now-index.result in
    let both = c.in_ok-push.ensures w all in
    let within : i < length vs = omega arith in
    let within-2 : i < length ns = omega arith in
    c.loop-index.invariant w both.0
    (next_items w c.args.pointer.now i vs ns v n within c.index-items-index.is within-2 c.index-now-index.is
    (subst (λ q. spec.IsAfter w q (view v) (view n)) c.in_ok-below.ensures both.1) items)

pub returns : goal.returns
returns c = λ is w all.
    let i = c.loop-index.index in
    let end : length c.args.items.now ≤ i = omega arith in
    let end-2 : length c.args.now.now ≤ i = omega arith in
    c.loop-index.invariant w all (no_items_left w c.args.pointer.now i c.args.items.now c.args.now.now end end-2)
