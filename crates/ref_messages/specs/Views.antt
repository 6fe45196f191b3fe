-- What contracts see of the crate's types.
use Rattle.ref_messages.specs.declared.levels.Chosen as rust
use Rattle.ref_messages.specs.Levels.{Chosen}

-- a choice
abbrev pub chosen_of : rust.Chosen → Chosen
chosen_of c = record { code = c.code.now; level = c.level }
