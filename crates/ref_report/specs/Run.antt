-- What a run returns.
use Rattle.std.specs.Prelude.{◌≡◌, ℕ, List, Option}
use Rattle.std.specs.Io.KnownBytes.{Appends, Consumes}
use Rattle.ref_streams.specs.Bytes.{AppendsFront}
use Rattle.ref_report.specs.declared.status.Status.{Status}
use Rattle.ref_report.specs.Report.{Report, IsReport}

-- The source gave some bytes, the sink took the text of the report on these, and the status is the report's.
-- Where the source says which bytes are left, those that it gave were before them.
abbrev pub Reports : Option (List ℕ) → Option (List ℕ) → Option (List ℕ) → Option (List ℕ) → Status
    → Type 0
Reports left left' taken taken' status =
    (bytes : List ℕ) × Consumes left left' bytes × (report : Report) × IsReport bytes report
    × Appends taken taken' report.text × (status ≡ report.status)

-- The source gave some bytes, and the sink took a beginning of the text of the report on these.
abbrev pub ReportsInPart : Option (List ℕ) → Option (List ℕ) → Option (List ℕ) → Option (List ℕ)
    → Type 0
ReportsInPart left left' taken taken' =
    (bytes : List ℕ) × Consumes left left' bytes × (report : Report) × IsReport bytes report
    × AppendsFront taken taken' report.text
