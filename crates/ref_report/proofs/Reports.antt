-- What the reports are, once each part of them is known.
use Rattle.std.proofs.Common.{◌≡◌, ℕ, List, Option, Some, None, false, unwrap_or, IfSome, Bor, Result, Ok, Err, IfOk, OnOk, codes, decimal, string_bytes, ok_or, sym, ap, subst, ◌∙◌, ◌++◌, append_assoc}
use Rattle.std.specs.Io.KnownBytes.{Appends, Consumes}
use Rattle.serde_json.specs.Data.{Data}
use Rattle.serde_json.specs.View.{view}
use Rattle.serde_json.specs.declared.value.Value.{Value}
use Rattle.ref_draft.specs.declared.draft.Draft.{Draft}
use Rattle.ref_definitions.specs.Results.{◌>>=◌}
use Rattle.ref_definitions.specs.World.{World}
use Rattle.ref_definitions.specs.Fault.{Fault}
use Rattle.ref_definitions.specs.Follow.{Step, Followed, followed_steps}
use Rattle.ref_error.specs.declared.error.Error.{Error}
use Rattle.referencing.specs.Following.{lent_last, SaysStepFault}
use Rattle.ref_report.specs.declared.report.Report as declared
use Rattle.ref_report.specs.declared.status.Status.{Status}
use Rattle.ref_report.specs.declared.request.BadRequest.TheVariants as bad
use Rattle.ref_streams.specs.declared.error.RunError.{RunError}
use Rattle.ref_report.specs.Report.{Report, line, done_report, followed_report, lint_lines, with_lines, steps_of, IsRequestReport, IsReadReport, IsReport}
use Rattle.ref_report.specs.Request.{Request, request_of, read_request}
use Rattle.ref_json.specs.Text.{tree_of}
use Rattle.ref_report.specs.Worlds.{AreParents, IsWorldAbove}
use Rattle.ref_report.specs.Run.{Reports}
use Rattle.ref_registries.specs.Worlds.{IsErrorOf}
use Rattle.ref_report.specs.inner.Faults.{IsReportOn}
use Rattle.ref_report.specs.inner.Floats.{HoldsNoFloat}
use Rattle.ref_report.specs.inner.View.{report_view}
use Rattle.ref_report.proofs.OneWorld.{given_no_memory, unless_step}

pub report_of_tree : (bytes : List ℕ) (d : Data) (r : Report) → tree_of bytes ≡ Some d → IsReadReport (request_of d) r → IsReport bytes r
unfolding IsReport read_request
report_of_tree bytes d r is read = subst (λ o. IsReadReport (ok_or o bad.NotJson >>= request_of) r) (sym is) read

pub report_of_none : (bytes : List ℕ) (r : Report) → tree_of bytes ≡ None → IsReadReport (Err bad.NotJson) r → IsReport bytes r
unfolding IsReport read_request
report_of_none bytes r is read = subst (λ o. IsReadReport (ok_or o bad.NotJson >>= request_of) r) (sym is) read

-- a status that was answered, with what was written for it
pub reports_by : (bytes : List ℕ) (r : declared.Report) (left left' taken taken' : Option (List ℕ)) (ended : Type 0) (result : Result Status RunError) → ended → Consumes left left' bytes → IsReport bytes (report_view r)
    → IfOk result (λ status. status ≡ r.status) → OnOk result (Appends taken taken' (string_bytes r.text)) → IfOk result (λ status. ended × Reports left left' taken taken' status)
reports_by bytes r left left' taken taken' ended (Err e) end gave is status took = tt
reports_by bytes r left left' taken taken' ended (Ok s) end gave is status took = (end, (bytes, gave, report_view r, is, took, status))

pub last_without_floats : (last : Option (Bor Value × Draft)) → IfSome (lent_last last) (λ found. HoldsNoFloat found.0) → IfSome last (λ v. HoldsNoFloat (view v.0.now))
last_without_floats None h = tt
last_without_floats (Some v) h = h

-- ---- requests

pub meta_reported : (r : Request) (e : Error) (report : Report) → IsErrorOf (AreParents r.meta) e → IsReportOn (codes "meta") e report → IsRequestReport r report
meta_reported r e report refused is =
    let said = given_no_memory e is.0 refused in
    (Err said.0, said.1, is.1 said.0 said.2)

pub prepare_reported : (r : Request) (parents : World) (e : Error) (report : Report) → AreParents r.meta (Ok parents) → IsErrorOf (IsWorldAbove r parents) e → IsReportOn (codes "prepare") e report → IsRequestReport r report
prepare_reported r parents e report meta refused is =
    let said = given_no_memory e is.0 refused in
    (Ok parents, meta, (Err said.0, said.1, is.1 said.0 said.2))

-- the report on a step that faulted, and on steps that were all followed
pub step_is : (answer : Result Followed (ℕ × Fault)) (n : ℕ) (e : Error) (report : Report) → SaysStepFault answer n e → IsReportOn (decimal n) e report → report ≡ followed_report answer
step_is answer n e report fault is =
    let said = given_no_memory e is.0 (unless_step answer n e fault) in
    is.1 said.0 said.2 ∙ ap followed_report (sym said.1)

pub done_is : (answer : Result Followed (ℕ × Fault)) (f : Followed) (report : Report) → answer ≡ Ok f → report ≡ done_report f → report ≡ followed_report answer
done_is answer f report leads is = is ∙ ap followed_report (sym leads)

pub world_reported : (r : Request) (parents world : World) (ss : List Step) (steps report : Report) → AreParents r.meta (Ok parents) → IsWorldAbove r parents (Ok world) → ss ≡ steps_of r
    → steps ≡ followed_report (followed_steps world r.base ss) → report ≡ with_lines (lint_lines (unwrap_or r.lint false) world) steps → IsRequestReport r report
world_reported r parents world ss steps report meta above same leads is =
    let lines = lint_lines (unwrap_or r.lint false) world in
    (Ok parents, meta, (Ok world, above, is ∙ ap (with_lines lines) leads ∙ ap (λ s. with_lines lines (followed_report (followed_steps world r.base s))) same))

-- the line of a fault, as it is written from the front
pub fault_line : (of text : List ℕ) → codes "fault " ++ (of ++ (codes " " ++ (text ++ codes "\n"))) ≡ line (codes "fault " ++ of ++ codes " " ++ text)
fault_line of text = simp append_assoc
