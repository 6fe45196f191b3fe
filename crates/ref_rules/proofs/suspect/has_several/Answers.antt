use Rattle.std.proofs.Common.{◌≤◌, arith}
use Rattle.std.proofs.lemmas.Bool.{ltb-false}
use Rattle.serde_json.specs.View.{view, members_view}
use Rattle.ref_rules.specs.Views.{place_of}
use Rattle.ref_rules.proofs.Suspects.{object_from, few_decide, few_tell}
use Rattle.ref_rules.proofs.suspect.has_several.Goals as goal

pub returns-in-Some-clause-decides : goal.returns-in-Some-clause-decides
returns-in-Some-clause-decides c = λ no.
    let es = c.in-Some.members.now.entries in
    let is = object_from (view c.args.place.value.now) (members_view es) c.in-Some.ensures in
    let few : c.len.result ≤ 1 = ltb-false 1 c.len.result no in
    few_decide (place_of c.args.place) es is (omega (arith, few, c.len.ensures.len))

pub returns-in-Some-clause-tells : goal.returns-in-Some-clause-tells
returns-in-Some-clause-tells c = λ no.
    let es = c.in-Some.members.now.entries in
    let is = object_from (view c.args.place.value.now) (members_view es) c.in-Some.ensures in
    let few : c.len.result ≤ 1 = ltb-false 1 c.len.result no in
    few_tell (place_of c.args.place) es is (omega (arith, few, c.len.ensures.len))
