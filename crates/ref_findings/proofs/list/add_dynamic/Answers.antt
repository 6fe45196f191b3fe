use Rattle.std.proofs.Common.{◌≡◌, [], ◌++◌, Some, None, OnOk, sym, ap, subst, rules}
use Rattle.std.specs.Prelude.{IfOk, option_and_then}
use Rattle.std.specs.Option.{option_map_or}
use Rattle.std.specs.List.{AllZip}
use Rattle.serde_json.specs.Find.{get}
use Rattle.serde_json.specs.View.{view}
use Rattle.ref_findings.specs.Places.{dynamic_keyword}
use Rattle.ref_findings.specs.Findings.{dynamic_problem, finding_at, dynamic_findings_under}
use Rattle.ref_findings.specs.Entries.{IsFindingOf}
use Rattle.ref_findings.specs.inner.Keywords.{keyword_text}
use Rattle.ref_findings.specs.inner.Meanings.{IsMaybe}
use Rattle.ref_findings.specs.inner.Seen.{site_of, known_in}
use Rattle.ref_findings.proofs.list.add_dynamic.Goals as goal

pub returns : goal.returns
returns c = λ fs zip.
    let k = known_in c.args.known.now in
    let s = site_of c.args.site.now in
    let word = keyword_text c.in-Some.keyword in
    let under : dynamic_keyword s.1.draft ≡ Some word = search rules in
    let value = get word s.1.value in
    let there : value ≡ Some (view c.in-Some-dynamic_value.value.now) = search rules in
    let problem = option_and_then (dynamic_problem s.1.draft k s) value in
    subst (λ o. OnOk c.add.result (AllZip IsFindingOf c.add.new.list.items (fs ++ option_map_or (dynamic_findings_under k s) o []))) (sym under)
    (c.add.ensures problem
    (subst (λ o. IfOk c.of_dynamic-problem.result (IsMaybe (option_and_then (dynamic_problem s.1.draft k s) o))) (sym there) c.of_dynamic-problem.ensures.value) fs zip)
