use Rattle.std.proofs.Common.{◌++◌, Some, OnOk, subst}
use Rattle.ref_draft.specs.Views.{anchor_name}
use Rattle.ref_findings.specs.Findings.{anchor_problem, finding_at}
use Rattle.std.specs.List.{AllZip}
use Rattle.ref_findings.specs.Entries.{IsFindingOf}
use Rattle.ref_findings.specs.inner.Meanings.{IsMaybe}
use Rattle.std.specs.Prelude.{IfOk}
use Rattle.ref_findings.specs.inner.Seen.{site_of, known_in}
use Rattle.ref_findings.proofs.list.add_anchor.Goals as goal

pub returns : goal.returns
returns c = λ fs zip.
    let k = known_in c.args.known.now in
    let n = c.args.number in
    let s = site_of c.args.site.now in
    let a = anchor_name c.args.anchor in
    let said : IfOk c.of_anchor-problem.result (IsMaybe (anchor_problem k n s a.0)) =
    subst (λ x. IfOk c.of_anchor-problem.result (IsMaybe (anchor_problem k n s x))) c.name.ensures.value c.of_anchor-problem.ensures.value in
    subst (λ w. OnOk c.add.result (AllZip IsFindingOf c.add.new.list.items (fs ++ finding_at s (Some w) (anchor_problem k n s a.0)))) c.of_anchor-keyword.ensures.value
    (c.add.ensures (anchor_problem k n s a.0) said fs zip)
