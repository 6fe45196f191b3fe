use Rattle.std.proofs.Common.{arith}
use Rattle.std.proofs.lemmas.Str.Pattern.{split_parts}
use Rattle.ref_bundle.proofs.Keys.{first_cut, first_whole}
use Rattle.ref_bundle.proofs.fragment.first_token.Goals as goal

pub returns-in-Some : goal.returns-in-Some
returns-in-Some c =
    let cut = rw c.in-Some.is at (split_parts 47 c.args.text.now c.split_once.result c.split_once.ensures.cases (omega arith)) in
    first_cut c.args.text.now c.in-Some.token.now _ cut.0 cut.1

pub returns-in-None : goal.returns-in-None
returns-in-None c =
    let none = rw c.in-None.is at (split_parts 47 c.args.text.now c.split_once.result c.split_once.ensures.cases (omega arith)) in
    first_whole c.args.text.now none
