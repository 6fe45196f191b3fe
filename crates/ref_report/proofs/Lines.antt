-- The lines of unresolvable references, as the program writes them of what is listed.
use Rattle.std.proofs.Common.{◌≡◌, List, [], ◌∷◌, ◌++◌, ℕ, codes, decimal, flat_map, map, ap, refl, ◌∙◌, append_assoc}
use Rattle.std.specs.List.{AllZip}
use Rattle.serde_json.specs.Data.{string}
use Rattle.serde_json.specs.Written.{compact_text}
use Rattle.ref_paths.specs.Path.{Part}
use Rattle.ref_parts.specs.Pointer.{pointer_text}
use Rattle.ref_paths.specs.Segment.{part_of}
use Rattle.ref_definitions.specs.World.{World}
use Rattle.ref_definitions.specs.Fault.{Fault, fault_text}
use Rattle.ref_error.specs.declared.error.Error.{Error}
use Rattle.ref_error.specs.Errors.{error_text, SaysFault}
use Rattle.ref_lint.specs.declared.entry.Dangling.{Dangling}
use Rattle.ref_lint.specs.Dangling.{DanglingReference, dangling}
use Rattle.ref_lint.specs.Entries.{IsEntryOf}
use Rattle.ref_report.specs.Report.{line, dangling_line, dangling_lines}
use Rattle.ref_report.specs.inner.Lines.{entry_line}

-- errors display the texts of the faults that they say
abbrev pub SayTheirFaults : Type 0
SayTheirFaults = (error : Error) (fault : Fault) → SaysFault error fault → error_text error ≡ fault_text fault

abbrev line_of : ℕ → List Part → List ℕ → List ℕ
line_of document path text = line (codes "dangling " ++ decimal document ++ codes " " ++ compact_text (string (pointer_text path)) ++ codes " " ++ text)

line_of_entry : SayTheirFaults → (entry : Dangling) (r : DanglingReference) → IsEntryOf entry r → entry_line entry ≡ dangling_line r
line_of_entry law entry r is =
    ap (λ document. line_of document (map part_of entry.path.items) (error_text entry.error)) is.0
    ∙ ap (λ path. line_of r.document path (error_text entry.error)) is.1
    ∙ ap (line_of r.document r.path) (law entry.error r.fault is.3)

lines_of : SayTheirFaults → (entries : List Dangling) (rs : List DanglingReference) → AllZip IsEntryOf entries rs → flat_map entry_line entries ≡ flat_map dangling_line rs
lines_of law [] [] zip = refl
lines_of law [] (r ∷ rs) zip = absurd zip
lines_of law (entry ∷ entries) [] zip = absurd zip
lines_of law (entry ∷ entries) (r ∷ rs) zip =
    ap (λ l. l ++ flat_map entry_line entries) (line_of_entry law entry r zip.0)
    ∙ ap (λ l. dangling_line r ++ l) (lines_of law entries rs zip.1)

pub lines_are : SayTheirFaults → (world : World) (entries : List Dangling) → AllZip IsEntryOf entries (dangling world) → flat_map entry_line entries ≡ dangling_lines world
unfolding dangling_lines
lines_are law world entries zip = lines_of law entries (dangling world) zip

-- the line of an entry, as it is written from the front
pub dangling_parts : (document path text : List ℕ)
    → codes "dangling " ++ (document ++ (codes " " ++ (path ++ (codes " " ++ (text ++ codes "\n"))))) ≡ line (codes "dangling " ++ document ++ codes " " ++ path ++ codes " " ++ text)
dangling_parts document path text = simp append_assoc
