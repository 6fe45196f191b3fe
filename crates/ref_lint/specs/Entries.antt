-- What is listed of unresolvable references.
use Rattle.std.specs.Prelude.{◌≡◌, map, ⊤}
use Rattle.ref_paths.specs.Segment.{part_of}
use Rattle.ref_error.specs.declared.error.Error.{Error}
use Rattle.ref_error.specs.declared.error.Error.TheVariants as error
use Rattle.ref_error.specs.Errors.{SaysFault}
use Rattle.ref_lint.specs.declared.entry.Dangling.{Dangling}
use Rattle.ref_lint.specs.Dangling.{DanglingReference}

-- the entry has the reference's document, path and text, and its error says the fault
abbrev pub IsEntryOf : Dangling → DanglingReference → Type 0
IsEntryOf entry r =
    (entry.document ≡ r.document) × (map part_of entry.path.items ≡ r.path)
    × (entry.reference.now ≡ r.reference) × SaysFault entry.error r.fault

-- an error is that a document could not be retrieved
abbrev pub IsUnretrievable : Error → Type 0
IsUnretrievable (error.Unretrievable uri source) = ⊤
IsUnretrievable other = ⊥
