-- The documents that a request's steps are followed among.
use Rattle.std.specs.Prelude.{◌≡◌, List, [], Option, Some, None, unwrap_or, Result, Ok}
use Rattle.ref_definitions.specs.World.{World}
use Rattle.ref_definitions.specs.Fault.{Fault}
use Rattle.ref_definitions.specs.Preparing.{Given}
use Rattle.ref_definitions.specs.Pending.{Pending, given_of_builder}
use Rattle.ref_definitions.specs.Retrievers.{map_retriever}
use Rattle.referencing.specs.MetaSchemas.{given_of_meta_schemas}
use Rattle.ref_registries.specs.Worlds.{pending_of, IsWorld}
use Rattle.ref_report.specs.Request.{Document, Request}

-- the parents of a request's documents: its meta-schemas, where it has some
abbrev pub AreParents : Option (List Document) → Result World Fault → Type 0
AreParents None parents = parents ≡ Ok []
AreParents (Some documents) parents = IsWorld given_of_meta_schemas (pending_of documents) parents

-- A request's documents are prepared with its draft, and what they want is retrieved from its map, up to its limit.
abbrev pub given_of_request : Request → World → List Pending → Given
given_of_request r parents pending =
    given_of_builder (map_retriever (unwrap_or r.remote []))
    (unwrap_or r.limit 10000) r.draft parents pending

-- the world of a request's documents above such parents, or the fault
abbrev pub IsWorldAbove : Request → World → Result World Fault → Type 0
IsWorldAbove r parents world = IsWorld (given_of_request r parents) (pending_of r.documents) world
