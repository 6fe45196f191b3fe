-- Members of one name in an object of a text (RFC 8259, 4: names within an object should be unique).
use Rattle.std.specs.Prelude.{ℕ, List, [], ◌∷◌, flat_map, reverse, decimal, nat_lt, Option, if◌then◌else◌}
use Rattle.std.specs.Option.{option_map_or}
use Rattle.std.specs.List.{enumerate_from}
use Rattle.ref_parts.specs.Table.{Entry, last_value}

-- A member: the number of its object, which no other object has, and its name
pub record Member : Type 0 where
  pub object : ℕ
  pub name : List ℕ

-- a member that comes again, and the first one of its object that has its name, by their numbers
pub record Repeat : Type 0 where
  pub number : ℕ
  pub first : ℕ

-- a member as an entry under its object and its name
abbrev pub entry_of : ℕ × Member → List (Entry ℕ)
entry_of e = (decimal e.1.object, e.1.name, e.0) ∷ []

-- the members, the last first, so that of several under one name the first counts
abbrev pub entries : List Member → List (Entry ℕ)
entries members = reverse (flat_map entry_of (enumerate_from 0 members))

-- the first of a member's object that has its name
abbrev pub first_like : List Member → Member → Option ℕ
first_like members m = last_value (decimal m.object) m.name (entries members)

-- A member that isn't the first of its name
abbrev pub repeat_at : List Member → ℕ × Member → List Repeat
repeat_at members e =
    option_map_or (λ first. if nat_lt first e.0 then record { number = e.0; first = first } ∷ [] else [])
    (first_like members e.1) []

-- The members whose name an earlier member of their object has, each with the first one of that name
abbrev pub repeats : List Member → List Repeat
repeats members = flat_map (repeat_at members) (enumerate_from 0 members)
