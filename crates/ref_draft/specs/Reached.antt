-- The scan of parts one after another: what those before lead to decides how it goes on.
use Rattle.std.specs.Prelude.{◌≡◌, List, ◌++◌, Bool, true, false}
use Rattle.ref_paths.specs.Path.{Part, Key, Index}
use Rattle.ref_draft.specs.declared.draft.Draft.{Draft}
use Rattle.ref_draft.specs.declared.reached.Reached.{Reached}
use Rattle.ref_draft.specs.declared.reached.Reached.TheVariants.{Schema, Schemas, BelowItems, Other}
use Rattle.ref_draft.specs.declared.spec.Holding.{Holding}
use Rattle.ref_draft.specs.declared.spec.Holding.TheVariants.{Whole, WholeObject, Elements, Members, ElementsOrWhole, ObjectMembers, Nothing}
use Rattle.ref_draft.specs.Keywords.{holding_of}
use Rattle.ref_draft.specs.ScanSteps.{scan, scan_past}

-- whether the scan accepts parts from there on
abbrev pub scan_from : Draft → Bool → Reached → List Part → Bool
scan_from d object Schema parts = scan d object parts
scan_from d object Schemas parts = scan_past d object parts
scan_from d object BelowItems parts = object
scan_from d object Other parts = false

-- parts lead there: whatever parts follow, the scan goes on from there
abbrev pub HasReached : Draft → List Part → Reached → Type 0
HasReached d parts reached =
    (object : Bool) (rest : List Part)
    → scan d object (parts ++ rest) ≡ scan_from d object reached rest

-- whether no part more is accepted there
abbrev pub accepts_at : Bool → Reached → Bool
accepts_at object Schema = true
accepts_at object Schemas = false
accepts_at object BelowItems = object
accepts_at object Other = false

-- what is under a keyword that holds its subschemas so
abbrev pub reached_under : Holding → Reached
reached_under Whole = Schema
reached_under WholeObject = Schema
reached_under Elements = Schemas
reached_under Members = Schemas
reached_under ElementsOrWhole = BelowItems
reached_under ObjectMembers = BelowItems
reached_under Nothing = Other

-- what one more part leads to
abbrev pub reached_after : Draft → Reached → Part → Reached
reached_after d Schema (Key keyword) = reached_under (holding_of d keyword)
reached_after d Schema (Index i) = Schema
reached_after d Schemas part = Schema
reached_after d BelowItems part = BelowItems
reached_after d Other part = Other
