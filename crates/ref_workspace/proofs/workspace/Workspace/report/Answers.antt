use Rattle.std.proofs.Common.{rules, ◌≡◌, map, subst}
use Rattle.std.specs.Prelude.{IfOk}
use Rattle.std.specs.List.{AllZip}
use Rattle.ref_findings.specs.Entries.{source_of, IsFindingOf}
use Rattle.ref_findings.specs.Findings as found
use Rattle.ref_workspace.specs.Open.{workspace_of}
use Rattle.ref_workspace.specs.Workspace as spec
use Rattle.ref_workspace.proofs.workspace.Workspace.report.Goals as goal

pub returns-clause-findings : goal.returns-clause-findings
returns-clause-findings c =
    let w = workspace_of c.args.self.now in
    let own : map source_of c.as_slice.result.now ≡ spec.sources w = search rules in
    let others : map source_of c.as_slice-2.result.now ≡ spec.others w = search rules in
    let draft : c.draft.result ≡ w.draft = search rules in
    subst (λ d. IfOk c.report.result (λ r. AllZip IsFindingOf r.findings.items (found.findings d (spec.sources w) (spec.others w)))) draft
    (subst (λ s. IfOk c.report.result (λ r. AllZip IsFindingOf r.findings.items (found.findings c.draft.result s (spec.others w)))) own
    (subst (λ s. IfOk c.report.result (λ r. AllZip IsFindingOf r.findings.items (found.findings c.draft.result (map source_of c.as_slice.result.now) s))) others
    c.report.ensures.findings))
