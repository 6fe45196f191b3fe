-- What is said of how far a command is, and when.
use Rattle.std.specs.Prelude.{ℕ, ◌-◌, List, ◌++◌, ◌==◌, Bool, nat_le, Option, None, Some, codes, decimal, if◌then◌else◌}
use Rattle.ref_command_line.specs.declared.progress.Progress.{Progress}
use Rattle.ref_command_line.specs.declared.progress.Progress.TheVariants.{Reading, Judging}

-- so many of a thing, by the name of one
abbrev pub counted : ℕ → List ℕ → List ℕ
counted n name =
    if n == 1
    then decimal n ++ codes " " ++ name
    else decimal n ++ codes " " ++ name ++ codes "s"

-- what is said
abbrev pub progress_text : Progress → List ℕ
progress_text (Reading read files) =
    decimal read ++ codes " of " ++ counted files (codes "file") ++ codes " read"
progress_text (Judging files documents) =
    counted files (codes "file") ++ codes " read, judging " ++ counted documents (codes "document")

-- after how many milliseconds it is said for the first time
abbrev pub patience : Progress → ℕ
patience (Reading read files) = 1000
patience (Judging files documents) = 500

-- whether it is said after so many milliseconds, where something was said last after so many: ten times a second at most
abbrev pub is_due : Progress → ℕ → Option ℕ → Bool
is_due p now None = nat_le (patience p) now
is_due p now (Some last) = nat_le 100 (now - last)
