use Rattle.std.proofs.Common.{◌≡◌, ◌++◌, codes, string_bytes, sym, ap, ◌∙◌, true≢false}
use Rattle.ref_error.specs.Errors.{error_text, is_memory}
use Rattle.ref_report.specs.Report.{line}
use Rattle.ref_report.specs.declared.status.Status.TheVariants as status
use Rattle.ref_report.proofs.Reports.{fault_line}
use Rattle.ref_report.proofs.report.report_on.Goals as goal

pub returns : goal.returns
returns c =
    let text : string_bytes c.in_ok-format.field-0 ≡ line (codes "fault " ++ c.args.of.now ++ codes " " ++ error_text c.args.error.now) = c.in_ok-format.ensures.ok ∙ fault_line c.args.of.now (error_text c.args.error.now) in (
      λ memory is. absurd (true≢false (sym (ap is_memory is) ∙ sym c.is_memory.ensures.value ∙ c.if-is_memory.false)),
      λ fault says. ap (λ t. record { status = status.Fault; text = t }) (text ∙ ap (λ t. line (codes "fault " ++ c.args.of.now ++ codes " " ++ t)) (c.errors_say_faults.ensures.law c.args.error.now fault says)),
    )
