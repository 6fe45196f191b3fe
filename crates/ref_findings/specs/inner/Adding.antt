-- What a call adds to the list of findings.
use Rattle.std.specs.Prelude.{List, ◌++◌, Result, OnOk}
use Rattle.std.specs.List.{AllZip}
use Rattle.ref_findings.specs.declared.finding.Finding as rust
use Rattle.ref_findings.specs.Findings.{Finding}
use Rattle.ref_findings.specs.Entries.{IsFindingOf}

-- where the call succeeds, the list says these findings after those that it said before
abbrev pub Adds : {T E : Type 0} → List rust.Finding → List rust.Finding → Result T E
    → List Finding → Type 0
Adds before after result more =
    (fs : List Finding) → AllZip IsFindingOf before fs
    → OnOk result (AllZip IsFindingOf after (fs ++ more))
