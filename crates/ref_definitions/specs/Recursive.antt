-- Recursive references (2019-09 Core, 8.2.4.2).
use Rattle.std.specs.Prelude.{Bool, false, List, [], ◌∷◌, map, drop, codes, None, Result, Ok, Err, if◌then◌else◌}
use Rattle.std.specs.List.{take_while, prefix_len, last_or}
use Rattle.std.specs.Option.{option_map_or, unwrap_or}
use Rattle.serde_json.specs.Data.{Data}
use Rattle.serde_json.specs.Find.{get}
use Rattle.ref_draft.specs.Schema.{is_true}
use Rattle.ref_definitions.specs.Results.{◌>>=◌}
use Rattle.ref_definitions.specs.World.{World}
use Rattle.ref_definitions.specs.Fault.{Fault}
use Rattle.ref_definitions.specs.Lookup.{Resolver, Found, lookup}

-- an object whose `$recursiveAnchor` is true
abbrev pub is_marked : Data → Bool
is_marked value = option_map_or is_true (get (codes "$recursiveAnchor") value) false

-- a lookup that returns a marked value
abbrev pub answers_marked : Result Found Fault → Bool
answers_marked (Ok found) = is_marked found.value
answers_marked (Err fault) = false

-- the lookups of the scope's URIs, inner to outer, each from the resolver asked
abbrev pub looked_up : World → Resolver → List (Result Found Fault)
looked_up world r = map (λ uri. lookup world r uri) r.scope

-- the longest beginning of lookups that return marked values
abbrev pub marked_beginning : List (Result Found Fault) → List (Result Found Fault)
marked_beginning answers = take_while answers_marked answers

-- what is after that beginning
abbrev pub after_beginning : List (Result Found Fault) → List (Result Found Fault)
after_beginning answers = drop (prefix_len answers_marked answers) answers

-- a fault that is right after, or else this answer
abbrev pub unless_fault_after : List (Result Found Fault) → Result Found Fault → Result Found Fault
unless_fault_after [] answer = answer
unless_fault_after (Ok found ∷ rest) answer = answer
unless_fault_after (Err fault ∷ rest) answer = Err fault

-- The last of the longest beginning, or the first lookup where that is empty; a fault right after the beginning is the answer.
abbrev pub outermost_marked : Result Found Fault → List (Result Found Fault) → Result Found Fault
outermost_marked first answers =
    unless_fault_after (after_beginning answers)
    (unwrap_or (last_or None (marked_beginning answers)) first)

-- where `$recursiveRef` leads
unfoldable pub lookup_recursive : World → Resolver → Result Found Fault
lookup_recursive world r =
    lookup world r (codes "#")
    >>= λ first. if is_marked first.value then outermost_marked (Ok first) (looked_up world r)
    else Ok first
