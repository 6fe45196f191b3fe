-- The names of drafts in requests, calls and answers.
use Rattle.std.specs.Prelude.{ℕ, List, codes, bytes_eq, if◌then◌else◌, Option, Some, None}
use Rattle.ref_draft.specs.declared.draft.Draft.{Draft}
use Rattle.ref_draft.specs.declared.draft.Draft.TheVariants.{Draft4, Draft6, Draft7, Draft201909, Draft202012, Unknown}

-- the name of a draft
abbrev pub draft_name : Draft → List ℕ
draft_name Draft4 = codes "4"
draft_name Draft6 = codes "6"
draft_name Draft7 = codes "7"
draft_name Draft201909 = codes "2019-09"
draft_name Draft202012 = codes "2020-12"
draft_name Unknown = codes "unknown"

-- the draft that a name means: none is named `unknown`
abbrev pub draft_named : List ℕ → Option Draft
draft_named s =
    if bytes_eq s (codes "4") then Some Draft4
    else (if bytes_eq s (codes "6") then Some Draft6
    else (if bytes_eq s (codes "7") then Some Draft7
    else (if bytes_eq s (codes "2019-09") then Some Draft201909
    else (if bytes_eq s (codes "2020-12") then Some Draft202012 else None))))
