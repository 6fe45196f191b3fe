use Rattle.ref_findings.proofs.list.findings.Goals as goal

pub returns : goal.returns
returns c = record { value = c.in_ok-report.ensures.findings }
