-- What the structs of the program stand for.
use Rattle.std.specs.Prelude.{ℕ, List, map, option_map, string_bytes}
use Rattle.std.specs.Borrow.{Bor}
use Rattle.serde_json.specs.View.{view}
use Rattle.serde_json.specs.declared.value.Value.{Value}
use Rattle.ref_error.specs.Retrieving.{trees_of}
use Rattle.ref_report.specs.declared.request.Step.{Step}
use Rattle.ref_report.specs.declared.request.Step.TheVariants.{Lookup, Recursive, Enter}
use Rattle.ref_report.specs.declared.request.Request.{Request}
use Rattle.ref_report.specs.declared.report.Report.{Report}
use Rattle.ref_report.specs.Request as request
use Rattle.ref_report.specs.Report as report

-- what is seen of a document
abbrev pub document_view : Bor (List ℕ) × Bor Value → request.Document
document_view d = (d.0.now, view d.1.now)

-- of documents
abbrev pub documents_view : List (Bor (List ℕ) × Bor Value) → List request.Document
documents_view ds = map document_view ds

-- of a step
abbrev pub step_view : Step → request.Step
step_view (Lookup reference) = request.Lookup reference.now
step_view Recursive = request.Recursive
step_view (Enter value) = request.Enter (view value.now)

-- of a request
abbrev pub request_view : Request → request.Request
request_view r = record {
  documents = documents_view r.documents.items;
  base = r.base;
  steps = map step_view r.steps.items;
  remote = option_map (λ v. trees_of v.items) r.remote;
  meta = option_map (λ v. documents_view v.items) r.meta;
  draft = r.draft;
  limit = r.limit;
  lint = r.lint;
}

-- of a report
abbrev pub report_view : Report → report.Report
report_view r = record { status = r.status; text = string_bytes r.text }
