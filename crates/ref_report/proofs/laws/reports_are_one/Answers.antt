use Rattle.ref_report.specs.Report.{IsReport}
use Rattle.ref_report.specs.Request.{read_request}
use Rattle.ref_report.proofs.OneWorld.{one_report}
use Rattle.ref_report.proofs.laws.reports_are_one.Goals as goal

pub returns : goal.returns
unfolding IsReport
returns c = record { law = λ bytes one other first second. one_report (read_request bytes) one other first second }
