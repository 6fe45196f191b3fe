-- Following steps from a base.
use Rattle.std.specs.Prelude.{ℕ, ◌+◌, List, [], ◌∷◌, Option, Some, None, Result, Ok, Err}
use Rattle.serde_json.specs.Data.{Data}
use Rattle.ref_draft.specs.declared.draft.Draft.{Draft}
use Rattle.ref_definitions.specs.Results.{◌>>=◌}
use Rattle.ref_definitions.specs.World.{World}
use Rattle.ref_definitions.specs.Fault.{Fault, as_invalid_uri}
use Rattle.ref_definitions.specs.Lookup.{Resolver, Found, lookup, in_subresource}
use Rattle.ref_definitions.specs.Recursive.{lookup_recursive}

-- a lookup of a reference, a recursive lookup, or a resource that is entered
pub data Step : Type 0 where
  Lookup : List ℕ → Step
  Recursive : Step
  Enter : Draft → Data → Step

-- the value found last with its draft, if a lookup was made, and where the next one starts from
pub record Followed : Type 0 where
  pub last : Option (Data × Draft)
  pub resolver : Resolver

-- after a lookup that found this
abbrev pub after_lookup : Found → Followed
after_lookup found = record { last = Some (found.value, found.draft); resolver = found.resolver }

-- one step: an entered resource with an identifier changes the base, and nothing else changes
abbrev pub after_step : World → Followed → Step → Result Followed Fault
after_step world f (Lookup reference) =
    lookup world f.resolver reference >>= λ found. Ok (after_lookup found)
after_step world f Recursive =
    lookup_recursive world f.resolver >>= λ found. Ok (after_lookup found)
after_step world f (Enter draft value) =
    as_invalid_uri (in_subresource f.resolver draft value) >>= λ r. Ok (record f { resolver = r })

-- a fault with the number of its step
abbrev pub numbered_fault : ℕ → Result Followed Fault → Result Followed (ℕ × Fault)
numbered_fault n (Ok f) = Ok f
numbered_fault n (Err fault) = Err (n, fault)

-- the steps one after another, the first of them with this number
abbrev pub followed_from : World → ℕ → Followed → List Step → Result Followed (ℕ × Fault)
followed_from world n f [] = Ok f
followed_from world n f (step ∷ steps) =
    numbered_fault n (after_step world f step) >>= λ g. followed_from world (n + 1) g steps

-- the steps one after another from a base, with an empty scope and no value: the first fault ends them, numbered from 0
unfoldable pub followed_steps : World → List ℕ → List Step → Result Followed (ℕ × Fault)
followed_steps world base steps =
    followed_from world 0
    (record { last = None; resolver = record { base = base; scope = [] } }) steps
