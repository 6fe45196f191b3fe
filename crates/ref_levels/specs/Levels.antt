-- Which level a rule has in a file, by the configuration and the command line.
use Rattle.std.specs.Prelude.{ℕ, List, [], ◌∷◌, Bool, ◌||◌, Option, Some, None, codes, bytes_eq, map, if◌then◌else◌}
use Rattle.std.specs.List.{list_any, fold}
use Rattle.ref_files.specs.declared.excluded.What.{What}
use Rattle.ref_files.specs.Excluded.{leaves_out}
use Rattle.ref_messages.specs.declared.message.Level.{Level}
use Rattle.ref_messages.specs.declared.message.Level.TheVariants.{Error, Warning, Note}
use Rattle.ref_messages.specs.Levels.{Chosen, level_by}
use Rattle.ref_configuration.specs.Members.{FileRules}

-- the levels of rules in some files: the paths and patterns as they are written, what they mean, and the levels
pub record FileChoices : Type 0 where
  pub texts : List (List ℕ)
  pub files : List What
  pub choices : List Chosen

-- the levels that the configuration sets, those that it sets in some files, and those of the command line
pub record Choices : Type 0 where
  pub first : List Chosen
  pub overrides : List FileChoices
  pub last : List Chosen

-- ---- the level of a finding

-- whether a file is one of those that an override is for
abbrev pub is_for : List ℕ → FileChoices → Bool
is_for path o = list_any (leaves_out path) o.files

-- the level of a rule by choices that count, or don't
abbrev pub level_if : Bool → List Chosen → List ℕ → Option Level → Option Level
level_if counts choices code level = if counts then level_by choices code level else level

-- the level of a rule in a file after an override: what it is set to there, or else as it was
abbrev pub over : List ℕ → List ℕ → Option Level → FileChoices → Option Level
over path code level o = level_if (is_for path o) o.choices code level

-- the level of a rule in a file, where its findings are listed: the command line counts before the overrides, of which the last one
-- for the file counts, and they before the rest of the configuration; its own level is that before all of them
abbrev pub level_of : Choices → List ℕ → List ℕ → Option Level → Option Level
level_of c path code own =
    level_by c.last code (fold (over path code) (level_by c.first code own) c.overrides)

-- ---- whether a rule is set

abbrev pub sets : List Chosen → List ℕ → Bool
sets choices code = list_any (λ c. bytes_eq c.code code) choices

-- whether a rule is set somewhere
abbrev pub is_set : Choices → List ℕ → Bool
is_set c code =
    sets c.first code || sets c.last code || list_any (λ o. sets o.choices code) c.overrides

-- ---- what a configuration sets

-- the level that a name means; another one means that the rule is off
abbrev pub level_named : List ℕ → Option Level
level_named name =
    if bytes_eq name (codes "error") then Some Error
    else (if bytes_eq name (codes "warning") then Some Warning
    else (if bytes_eq name (codes "note") then Some Note else None))

abbrev pub chosen : List ℕ → Option Level → Chosen
chosen code level = record { code = code; level = level }

abbrev pub choice_of : List ℕ × List ℕ → Chosen
choice_of rule = chosen rule.0 (level_named rule.1)

-- whether a name is one of those of rules
abbrev pub is_rule : List (List ℕ) → List ℕ → Bool
is_rule names code = list_any (λ name. bytes_eq name code) names

-- the texts and the choices of overrides
abbrev pub said_of : FileChoices → List (List ℕ) × List Chosen
said_of o = (o.texts, o.choices)

abbrev pub says : FileRules → List (List ℕ) × List Chosen
says o = (o.files, map choice_of o.rules)

-- what is set without overrides
abbrev pub set_without_overrides : List Chosen → List Chosen → Choices
set_without_overrides first last = record { first = first; overrides = []; last = last }
