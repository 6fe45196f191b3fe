-- What files `.gitignore` say of a path (gitignore(5)).
use Rattle.std.specs.Prelude.{◌==◌, ◌&&◌, ◌||◌, ℕ, List, [], ◌∷◌, Bool, true, false, not, if◌then◌else◌, map, string_bytes, Option, None, Some, unwrap_or}
use Rattle.ref_patterns.specs.declared.ignoring.Ignore.{Ignore}
use Rattle.ref_patterns.specs.declared.ignoring.Line.{Line}
use Rattle.ref_patterns.specs.declared.ignoring.Verdict.{Verdict}
use Rattle.ref_patterns.specs.declared.ignoring.Verdict.TheVariants.{Ignored, TakenBack, Open}
use Rattle.ref_patterns.specs.Patterns.{any_matches, parts_in}

-- what follows a beginning of a path, where it has it
abbrev pub below : List ℕ → List ℕ → Option (List ℕ)
below [] path = Some path
below (b ∷ front) [] = None
below (b ∷ front) (c ∷ path) = if c == b then below front path else None

-- the last that says something counts
abbrev pub or_before : Option Bool → Option Bool → Option Bool
or_before None said = said
or_before (Some last) said = Some last

abbrev pub last_said : List (Option Bool) → Option Bool
last_said [] = None
last_said (said ∷ later) = or_before (last_said later) said

-- whether a line says that a path is left out, which is one of a folder or of a file: nothing where none of its patterns matches, or it speaks of folders alone
abbrev pub said_by_line : Bool → List ℕ → Line → Option Bool
said_by_line is_folder path line =
    if (is_folder || not line.is_folder) && any_matches (parts_in line.alternatives.items) path then Some (not line.is_taken_back) else None

abbrev pub said_of : Bool → List Line → Option (List ℕ) → Option Bool
said_of is_folder lines None = None
said_of is_folder lines (Some path) = last_said (map (said_by_line is_folder path) lines)

-- whether a file says so: its last line that speaks of the path counts, and it speaks of what is below its folder
abbrev pub said_by : Bool → List ℕ → Ignore → Option Bool
said_by is_folder path ignore = said_of is_folder ignore.lines.items (below (string_bytes ignore.folder) path)

-- whether files leave out a path: the last one that says something counts, which is the innermost
abbrev pub is_ignored : List Ignore → Bool → List ℕ → Bool
is_ignored files is_folder path = unwrap_or (last_said (map (said_by is_folder path) files)) false

-- what a verdict says
abbrev pub said : Verdict → Option Bool
said Ignored = Some true
said TakenBack = Some false
said Open = None
