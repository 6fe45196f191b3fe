-- Which files are left out, by paths and patterns.
use Rattle.std.specs.Prelude.{ℕ, ◌==◌, ◌&&◌, ◌||◌, Bool, true, false, not, if◌then◌else◌, List, [], ◌∷◌, map, string_bytes, Option, None, Some}
use Rattle.std.specs.List.{list_any}
use Rattle.ref_patterns.specs.declared.pattern.Pattern.{Pattern}
use Rattle.ref_patterns.specs.Patterns.{alternatives_of, any_matches}
use Rattle.ref_files.specs.Plain.{slash}
use Rattle.ref_files.specs.Meant.{after}
use Rattle.ref_files.specs.declared.excluded.Excluded.{Excluded}
use Rattle.ref_files.specs.declared.excluded.What.{What}
use Rattle.ref_files.specs.declared.excluded.What.TheVariants.{Nothing, Path, Matched}

-- whether what follows a path is nothing, or goes on below it
abbrev pub is_below : Option (List ℕ) → Bool
is_below None = false
is_below (Some []) = true
is_below (Some (b ∷ rest)) = b == slash

-- whether a pattern matches what follows the path of a folder
abbrev pub matches_below : Pattern → Option (List ℕ) → Bool
matches_below pattern None = false
matches_below pattern (Some path) = any_matches (alternatives_of pattern) path

-- whether the file or the folder at a path is left out: it is the one at another path, or below it; or a pattern matches its path below a folder
abbrev pub leaves_out : List ℕ → What → Bool
leaves_out path Nothing = false
leaves_out path (Path own) = is_below (after (string_bytes own) path)
leaves_out path (Matched folder pattern) = matches_below pattern (after (string_bytes folder) path)

-- whether one of several leaves it out
abbrev pub is_excluded : List ℕ → List Excluded → Bool
is_excluded path list = list_any (λ (e : Excluded). leaves_out path e.what) list

-- each that leaves it out was used
abbrev pub used : List ℕ → List Excluded → List Excluded
used path list = map (λ (e : Excluded). record e { is_used = e.is_used || leaves_out path e.what }) list

-- those that left out nothing and are to be told, as they were given
abbrev pub unused : List Excluded → List (List ℕ)
unused [] = []
unused (e ∷ es) =
    if not e.is_used && e.is_told then string_bytes e.given ∷ unused es else unused es
