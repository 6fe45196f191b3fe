-- Which findings are listed, by the least level that is.
use Rattle.std.specs.Prelude.{ℕ, List, Bool, Option, Some, None, codes, bytes_eq, nat_le, if◌then◌else◌}
use Rattle.ref_messages.specs.declared.message.Level.{Level}
use Rattle.ref_messages.specs.declared.message.Level.TheVariants.{Error, Warning, Note}

-- the place of a level among them, the gravest first
abbrev pub rank : Level → ℕ
rank Error = 0
rank Warning = 1
rank Note = 2

abbrev pub is_listed : Level → Level → Bool
is_listed level least = nat_le (rank level) (rank least)

-- the level of a name; another one is that of notes, by which everything is listed
abbrev pub least_named : List ℕ → Level
least_named name =
    if bytes_eq name (codes "error") then Error
    else (if bytes_eq name (codes "warning") then Warning else Note)

-- the least level by the name that the command line has, or else by that of the configuration
abbrev pub least_of : Option (List ℕ) → Option (List ℕ) → Level
least_of (Some given) configured = least_named given
least_of None (Some configured) = least_named configured
least_of None None = Note
