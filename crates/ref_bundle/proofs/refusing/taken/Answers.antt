use Rattle.std.proofs.Common.{◌≡◌, None, Some, option_map, sym, ◌∙◌, rules}
use Rattle.serde_json.specs.View.{view}
use Rattle.ref_bundle.specs.Saying.{refusal_said}
use Rattle.ref_bundle.specs.inner.Seen.{numbered_part}
use Rattle.ref_bundle.specs.inner.First.{taken_in}
use Rattle.ref_bundle.proofs.Firsts.{found_here, none_more}
use Rattle.ref_bundle.proofs.refusing.taken.Goals as goal

pub returns-in-Some : goal.returns-in-Some
returns-in-Some c =
    let l = c.loop-part in
    let said : option_map refusal_said c.in_ok-refusal.field-0 ≡ Some (refusal_said c.in-Some.refusal) = search rules in
    found_here (taken_in c.args.top c.args.keyword.now (view c.args.value.now)) numbered_part c.args.parts.now l.part-index c.part-item.result (refusal_said c.in-Some.refusal)
    c.loop-part-test.true c.part-item.is l.invariant (sym said ∙ c.in_ok-refusal.ensures)

pub loop-part-preserved : goal.loop-part-preserved
loop-part-preserved c =
    let l = c.loop-part in
    let said : option_map refusal_said c.in_ok-refusal.field-0 ≡ None = search rules in
    none_more (taken_in c.args.top c.args.keyword.now (view c.args.value.now)) numbered_part c.args.parts.now l.part-index c.part-item.result
    c.loop-part-test.true c.part-item.is l.invariant (sym said ∙ c.in_ok-refusal.ensures)
