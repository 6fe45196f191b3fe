-- Which format a file has, by its name.
use Rattle.std.specs.Prelude.{ℕ, ◌==◌, ◌||◌, if◌then◌else◌, List, Bool, codes}
use Rattle.std.specs.List.{ends_with}
use Rattle.ref_positions.specs.declared.format.Format.{Format}
use Rattle.ref_positions.specs.declared.format.Format.TheVariants.{Json, Yaml}

-- whether a text ends with another
abbrev pub has_end : List ℕ → List ℕ → Bool
has_end end text = ends_with (λ a b. a == b) text end

-- the format of the file at a path: YAML by `.yaml` or `.yml`, and else JSON
abbrev pub format_of : List ℕ → Format
format_of path = if has_end (codes ".yaml") path || has_end (codes ".yml") path then Yaml else Json

-- its name
abbrev pub name_of : Format → List ℕ
name_of Json = codes "JSON"
name_of Yaml = codes "YAML"
