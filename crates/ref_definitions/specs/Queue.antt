-- The places of a document while a queue goes through them, level by level, for private clauses.
use Rattle.std.specs.Prelude.{◌≡◌, ℕ, ◌≤◌, List, ◌++◌, flat_map}
use Rattle.serde_json.specs.Data.{depth}
use Rattle.ref_definitions.specs.World.{Document}
use Rattle.ref_definitions.specs.Places.{Place, levels, places_by}

-- the rest of a level, then the level below it, of which the beginning was found, and the m levels below that
abbrev pub left_from : (Place → List Place) → ℕ → List Place → List Place → List Place
left_from children m level next =
    level
    ++ ((next ++ flat_map children level) ++ levels children m (next ++ flat_map children level))

-- Some places were visited, and some wait: the rest of a level, then what was found of the next one.
pub record IsQueueBy (children : Place → List Place) (d : Document)
    (visited waiting : List Place) : Type 0 where
  pub level : List Place
  pub next : List Place
  pub split : waiting ≡ level ++ next
  pub whole : (m : ℕ) → depth d.tree ≤ m
      → places_by children d ≡ visited ++ left_from children m level next
