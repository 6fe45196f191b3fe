-- The report on a request.
use Rattle.std.specs.Prelude.{◌≡◌, ℕ, Bool, false, List, [], ◌∷◌, ◌++◌, codes, decimal, flat_map, map, Option, Some, None, unwrap_or, Result, Ok, Err, if◌then◌else◌}
use Rattle.serde_json.specs.Data.{Data, string}
use Rattle.serde_json.specs.Written.{compact_text}
use Rattle.ref_parts.specs.Pointer.{pointer_text}
use Rattle.ref_draft.specs.declared.draft.Draft.{Draft}
use Rattle.ref_draft.specs.Names.{draft_name}
use Rattle.ref_draft.specs.Schema.{detect}
use Rattle.ref_definitions.specs.World.{World}
use Rattle.ref_definitions.specs.Fault.{Fault, fault_text}
use Rattle.ref_definitions.specs.Pending.{builder_draft}
use Rattle.ref_definitions.specs.Follow as world
use Rattle.ref_definitions.specs.Follow.{Followed, followed_steps}
use Rattle.ref_lint.specs.Dangling.{DanglingReference, dangling}
use Rattle.ref_report.specs.declared.status.Status.{Status}
use Rattle.ref_report.specs.declared.status.Status.TheVariants as status
use Rattle.ref_report.specs.declared.request.BadRequest.{BadRequest}
use Rattle.ref_report.specs.declared.request.BadRequest.TheVariants.{NotJson, NotAnObject, Float, UnknownField, Documents, Base, Steps, Remote, Meta, Draft as DraftField, Limit, Lint}
use Rattle.ref_report.specs.Request.{Step, Lookup, Recursive, Enter, Request, read_request}
use Rattle.ref_report.specs.Worlds.{AreParents, IsWorldAbove}

-- what is written, and how a run ends
pub record Report : Type 0 where
  pub status : Status
  pub text : List ℕ

-- a text, with a line feed
abbrev pub line : List ℕ → List ℕ
line text = text ++ 10 ∷ []

-- why a request is bad, in a word or two
abbrev pub reason : BadRequest → List ℕ
reason NotJson = codes "not JSON"
reason NotAnObject = codes "not an object"
reason Float = codes "float"
reason UnknownField = codes "unknown field"
reason Documents = codes "documents"
reason Base = codes "base"
reason Steps = codes "steps"
reason Remote = codes "remote"
reason Meta = codes "meta"
reason DraftField = codes "draft"
reason Limit = codes "limit"
reason Lint = codes "lint"

-- the report on a bad request
abbrev pub bad_report : BadRequest → Report
bad_report bad =
    record { status = status.BadRequest; text = line (codes "bad request " ++ reason bad) }

-- a fault, with what it is a fault of
abbrev pub fault_report : List ℕ → Fault → Report
fault_report of fault =
    record {
      status = status.Fault;
      text = line (codes "fault " ++ of ++ codes " " ++ fault_text fault);
    }

-- the value found last and its draft
abbrev pub value_lines : Option (Data × Draft) → List ℕ
value_lines None = line (codes "no value")
value_lines (Some (value, draft)) =
    line (codes "value " ++ compact_text value) ++ line (codes "draft " ++ draft_name draft)

-- the line of the scope, inner to outer
abbrev pub scope_line : List (List ℕ) → List ℕ
scope_line scope = line (codes "scope" ++ flat_map (λ uri. codes " " ++ uri) scope)

-- the report on steps that were all followed
abbrev pub done_report : Followed → Report
done_report f = record {
  status = status.Done;
  text =
      value_lines f.last ++ line (codes "base " ++ f.resolver.base) ++ scope_line f.resolver.scope;
}

-- the report on where steps lead: a fault has the number of its step
abbrev pub followed_report : Result Followed (ℕ × Fault) → Report
followed_report (Ok f) = done_report f
followed_report (Err (n, fault)) = fault_report (decimal n) fault

-- the line of an unresolvable reference, with the pointer text of its place's path as a JSON string
abbrev pub dangling_line : DanglingReference → List ℕ
dangling_line r =
    line (codes "dangling " ++ decimal r.document ++ codes " "
    ++ compact_text (string (pointer_text r.path)) ++ codes " " ++ fault_text r.fault)

-- the lines of all of a world's own documents
unfoldable pub dangling_lines : World → List ℕ
dangling_lines world = flat_map dangling_line (dangling world)

-- what is after the lines of the steps: those lines, where they are asked for
abbrev pub lint_lines : Bool → World → List ℕ
lint_lines lint world = if lint then dangling_lines world else []

-- a report with more lines
abbrev pub with_lines : List ℕ → Report → Report
with_lines lines report = record { status = report.status; text = report.text ++ lines }

-- a step of a request: an object is entered as a resource of the draft that this one detects on it
abbrev pub step_in : Draft → Step → world.Step
step_in draft (Lookup reference) = world.Lookup reference
step_in draft Recursive = world.Recursive
step_in draft (Enter value) = world.Enter (detect draft value) value

-- the steps of a request, where its draft, or else 2020-12, is detected with
abbrev pub steps_of : Request → List world.Step
steps_of r = map (step_in (builder_draft r.draft)) r.steps

-- the report on a request, once its documents are prepared
abbrev pub world_report : Request → Result World Fault → Report
world_report r (Ok world) =
    with_lines (lint_lines (unwrap_or r.lint false) world)
    (followed_report (followed_steps world r.base (steps_of r)))
world_report r (Err fault) = fault_report (codes "prepare") fault

-- the report on a request, once its meta-schemas are prepared
abbrev pub IsReportAbove : Request → Result World Fault → Report → Type 0
IsReportAbove r (Ok parents) report =
    (world : Result World Fault) × IsWorldAbove r parents world × (report ≡ world_report r world)
IsReportAbove r (Err fault) report = report ≡ fault_report (codes "meta") fault

-- the report on a request
abbrev pub IsRequestReport : Request → Report → Type 0
IsRequestReport r report =
    (parents : Result World Fault) × AreParents r.meta parents × IsReportAbove r parents report

-- the report on a request, bad or not
abbrev pub IsReadReport : Result Request BadRequest → Report → Type 0
IsReadReport (Ok r) report = IsRequestReport r report
IsReadReport (Err bad) report = report ≡ bad_report bad

-- The report on the bytes of a request. There is one, which is the law `requests_have_reports`, and one alone, which is
-- `reports_are_one`.
unfoldable pub IsReport : List ℕ → Report → Type 0
IsReport bytes report = IsReadReport (read_request bytes) report
