use Rattle.std.proofs.Common.{◌≡◌, ◌==◌, length, true, false, rules}
use Rattle.serde_json.specs.View.{view}
use Rattle.ref_serve.proofs.Passing.{mended_none, mended_root, mended_below}
use Rattle.ref_serve.proofs.mending.tree_in_place.Goals as goal

pub returns-then-is_empty : goal.returns-then-is_empty
returns-then-is_empty c = λ fs zip.
    let none : (length c.args.found.now == 0) ≡ true = search rules in
    mended_none c.args.found.now fs (view c.args.value.now) none zip

pub returns-in-Some : goal.returns-in-Some
returns-in-Some c = λ fs zip.
    let some : (length c.args.found.now == 0) ≡ false = search rules in
    mended_root c.args.found.now fs (view c.args.value.now) (view c.in_ok-tree.tree) (view c.without_member.result) c.in-Some.key.now some zip (c.in-Some.ensures fs zip) (c.in_ok-tree.ensures.value fs zip) c.without_member.ensures

pub returns-in-None : goal.returns-in-None
returns-in-None c = λ fs zip.
    let some : (length c.args.found.now == 0) ≡ false = search rules in
    mended_below c.args.found.now fs (view c.args.value.now) (view c.in_ok-tree.tree) some zip (c.in-None.ensures fs zip) (c.in_ok-tree.ensures.value fs zip)
