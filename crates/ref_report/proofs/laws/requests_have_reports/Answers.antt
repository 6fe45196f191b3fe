use Rattle.ref_report.specs.Report.{IsReport}
use Rattle.ref_report.specs.Request.{read_request}
use Rattle.ref_report.proofs.SomeWorld.{some_report}
use Rattle.ref_report.proofs.laws.requests_have_reports.Goals as goal

pub returns : goal.returns
unfolding IsReport
returns c = record { law = λ bytes. some_report (read_request bytes) }
