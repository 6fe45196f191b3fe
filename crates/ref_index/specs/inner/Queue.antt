-- The places that wait in the queue of a walk, and those that were listed from it.
use Rattle.std.specs.Prelude.{◌≡◌, ℕ, ◌≤◌, List, ◌++◌, map, take, drop, length}
use Rattle.ref_definitions.specs.World.{Document}
use Rattle.ref_definitions.specs.Places.{children_of}
use Rattle.ref_definitions.specs.Queue.{IsQueueBy}
use Rattle.ref_definitions.specs.Listing.{Listed, listed_place}
use Rattle.ref_index.specs.declared.queue.Visit.{Visit}
use Rattle.ref_index.specs.Visit.{place_of}

-- The places before the head of the queue were listed after others.
pub record IsListedTo (d : Document) (number : ℕ) (before after : List Listed) (queue : List Visit)
    (head : ℕ) : Type 0 where
  pub within : head ≤ length queue
  pub order : IsQueueBy children_of d (map place_of (take head queue))
      (map place_of (drop head queue))
  pub list : after ≡ before ++ map (listed_place number) (map place_of (take head queue))
