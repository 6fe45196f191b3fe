-- Literal places for rows that compute.
use Prim.Native.String.{String as Literal}
use Rattle.std.specs.Prelude.{ℕ, true, false, codes}
use Rattle.serde_json.specs.Data.{Data}
use Rattle.ref_draft.specs.declared.draft.Draft.{Draft}
use Rattle.ref_rules.specs.declared.slip.Problem.{Problem}
use Rattle.ref_rules.specs.Slips.{Place, Slip}
use Rattle.ref_rules.specs.Ends.{End}
use Rattle.ref_rules.specs.Members.{Member, Repeat}
use Rattle.ref_rules.specs.Cases.{Alike}

-- the root of a document, and a place below it
abbrev pub root : Draft → Data → Place
root d value = record { is_root = true; draft = d; value = value }

abbrev pub inner : Draft → Data → Place
inner d value = record { is_root = false; draft = d; value = value }

-- what is told of a keyword of the place with a number
abbrev pub told : ℕ → Literal → Problem → Slip
told n keyword problem = record { place = n; keyword = codes keyword; problem = problem }

-- what a reference leads to
abbrev pub end : Draft → Data → End
end d value = record { draft = d; value = value }

-- a member of an object
abbrev pub member : ℕ → Literal → Member
member object name = record { object = object; name = codes name }

-- one that comes again
abbrev pub again : ℕ → ℕ → Repeat
again number first = record { number = number; first = first }

-- a text that is wanted, and one that is there
abbrev pub like : ℕ → ℕ → Alike
like wanted there = record { wanted = wanted; there = there }
