-- The references of a registry's own documents that are unresolvable (2020-12 Core, 8.2.3.1).
use Rattle.std.specs.Prelude.{ℕ, List, [], ◌∷◌, flat_map, codes, Option, Some, None, Result, Ok, Err}
use Rattle.ref_paths.specs.Path.{Part}
use Rattle.ref_draft.specs.Schema.{text_under}
use Rattle.ref_uri.specs.Targets.{Refusal}
use Rattle.ref_definitions.specs.World.{World, local_documents}
use Rattle.ref_definitions.specs.Listing.{Listed, local_places}
use Rattle.ref_definitions.specs.Fault.{Fault}
use Rattle.ref_definitions.specs.Lookup.{Found, lookup}

-- an unresolvable reference: the number of its document, the path of its place there, its text, and the fault
pub record DanglingReference : Type 0 where
  pub document : ℕ
  pub path : List Part
  pub reference : List ℕ
  pub fault : Fault

-- a reference of a place, by where it leads
abbrev pub where_fault : ℕ → List Part → List ℕ → Result Found Fault → List DanglingReference
where_fault number path reference (Ok found) = []
where_fault number path reference (Err fault) =
    record { document = number; path = path; reference = reference; fault = fault } ∷ []

-- the reference of a place, where there is one, looked up from the place's base with an empty dynamic scope; in a registry each
-- own place has a base
abbrev pub dangling_from : World → ℕ → List Part → Result (List ℕ) Refusal → Option (List ℕ)
    → List DanglingReference
dangling_from world number path (Ok base) (Some reference) =
    where_fault number path reference (lookup world (record { base = base; scope = [] }) reference)
dangling_from world number path (Ok base) None = []
dangling_from world number path (Err refusal) reference = []

-- the text under `$ref` of a listed place, where it is unresolvable
abbrev pub dangling_at : World → Listed → List DanglingReference
dangling_at world p =
    dangling_from world p.document p.path p.base (text_under (codes "$ref") p.value)

-- those of a registry's own places, in the order of the places
abbrev pub dangling : World → List DanglingReference
dangling world = flat_map (dangling_at world) (local_places (local_documents world))
