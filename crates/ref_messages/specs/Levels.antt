-- Which level findings of a rule have.
use Rattle.std.specs.Prelude.{ℕ, List, [], ◌∷◌, bytes_eq, codes, Option, if◌then◌else◌}
use Rattle.ref_messages.specs.declared.message.Level.{Level}
use Rattle.ref_messages.specs.declared.message.Level.TheVariants.{Error, Warning, Note}

-- a rule that is set to a level, or off
pub record Chosen : Type 0 where
  pub code : List ℕ
  pub level : Option Level

-- the level after one choice
abbrev pub chosen_by : Chosen → List ℕ → Option Level → Option Level
chosen_by c code level = if bytes_eq c.code code then c.level else level

-- the level of findings of a rule, where they are listed: the last that it is set to, or else its own
abbrev pub level_by : List Chosen → List ℕ → Option Level → Option Level
level_by [] code level = level
level_by (c ∷ cs) code level = level_by cs code (chosen_by c code level)

-- the name of a level
abbrev pub name_of : Level → List ℕ
name_of Error = codes "error"
name_of Warning = codes "warning"
name_of Note = codes "note"
