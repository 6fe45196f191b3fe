use Rattle.std.proofs.Common.{arith}
use Rattle.std.proofs.lemmas.Str.Pattern.{split_parts}
use Rattle.ref_bundle.proofs.Keys.{second_cut, second_whole}
use Rattle.ref_bundle.proofs.fragment.second_token.Goals as goal

pub returns-in-Some : goal.returns-in-Some
returns-in-Some c =
    let cut = rw c.in-Some.is at (split_parts 47 c.args.text.now c.split_once.result c.split_once.ensures.cases (omega arith)) in
    second_cut c.args.text.now _ c.in-Some.more.now c.first_token.result.now cut.0 cut.1 c.first_token.ensures

pub returns-in-None : goal.returns-in-None
returns-in-None c =
    let none = rw c.in-None.is at (split_parts 47 c.args.text.now c.split_once.result c.split_once.ensures.cases (omega arith)) in
    second_whole c.args.text.now none
