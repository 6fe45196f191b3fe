use Rattle.std.proofs.Common.{◌∙◌, ◌++◌, ◌∷◌, [], ap, sym, option_map, if◌then◌else◌}
use Rattle.ref_rules.specs.Ends.{is_no_schema}
use Rattle.ref_rules.specs.Views.{end_of}
use Rattle.ref_rules.proofs.Lists.{numbered_kept}
use Rattle.ref_rules.proofs.schemas.no_schemas.Goals as goal

pub loop-number-preserved : goal.loop-number-preserved
loop-number-preserved c =
    let l = c.loop-number in
    let e = c.index-ends-number.result in
    c.in_ok-push.ensures ∙ ap (λ ns. ns ++ (if is_no_schema (l.number, option_map end_of e) then l.number ∷ [] else [])) l.invariant
    ∙ sym (numbered_kept is_no_schema (option_map end_of) c.args.ends.now l.number e c.loop-number-test.true c.index-ends-number.is)
