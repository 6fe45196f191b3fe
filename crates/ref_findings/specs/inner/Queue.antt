-- The places that were found while they are gone through, for private clauses.
use Rattle.std.specs.Prelude.{ℕ, ◌≤◌, List, take, drop, length}
use Rattle.ref_definitions.specs.World.{Document}
use Rattle.ref_definitions.specs.Places.{Place}
use Rattle.ref_definitions.specs.Queue.{IsQueueBy}
use Rattle.ref_findings.specs.Places.{children_near}

-- The places before the head of the queue were visited.
pub record IsAt (d : Document) (queue : List Place) (head : ℕ) : Type 0 where
  pub within : head ≤ length queue
  pub order : IsQueueBy children_near d (take head queue) (drop head queue)
