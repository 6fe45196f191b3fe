-- The lines that the program writes of what `ref_lint` lists.
use Rattle.std.specs.Prelude.{ℕ, List, ◌++◌, codes, decimal, map}
use Rattle.serde_json.specs.Data.{string}
use Rattle.serde_json.specs.Written.{compact_text}
use Rattle.ref_parts.specs.Pointer.{pointer_text}
use Rattle.ref_paths.specs.Segment.{part_of}
use Rattle.ref_error.specs.Errors.{error_text}
use Rattle.ref_lint.specs.declared.entry.Dangling.{Dangling}
use Rattle.ref_report.specs.Report.{line}

-- the line of an entry, with the text of its error
abbrev pub entry_line : Dangling → List ℕ
entry_line entry =
    line (codes "dangling " ++ decimal entry.document ++ codes " "
    ++ compact_text (string (pointer_text (map part_of entry.path.items)))
    ++ codes " " ++ error_text entry.error)
