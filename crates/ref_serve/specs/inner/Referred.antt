-- What is seen of references that are listed.
use Rattle.std.specs.Prelude.{◌≡◌, ℕ, List, [], ◌∷◌, ◌++◌, map, Result}
use Rattle.std.specs.List.{AllZip}
use Rattle.serde_json.specs.Data.{Data}
use Rattle.serde_json.specs.View.{view}
use Rattle.serde_json.specs.declared.value.Value.{Value}
use Rattle.ref_paths.specs.Segment.{part_of}
use Rattle.ref_definitions.specs.Lookup.{Resolver}
use Rattle.ref_serve.specs.declared.references.Reference.{Reference}
use Rattle.ref_definitions.specs.World.{World, local_documents}
use Rattle.ref_definitions.specs.Listing.{local_places}
use Rattle.ref_index.specs.declared.places.Place.{Place}
use Rattle.ref_index.specs.Listing.{listed_of}
use Rattle.ref_serve.specs.declared.candidates.Choice.{Choice}
use Rattle.ref_serve.specs.declared.candidates.Choice.TheVariants as choice
use Rattle.ref_serve.specs.Candidates as candidates
use Rattle.ref_serve.specs.References as spec
use Rattle.ref_serve.specs.Results.{Asked, IsLookedUp}

abbrev pub reference_of : Reference → spec.Reference
reference_of r =
    record {
      document = r.place.now.document;
      path = map part_of r.place.now.path.items;
      base = r.place.now.base.value;
      keyword = r.keyword.now;
      text = r.text.now;
    }

-- the member of what a text means
abbrev pub IsTarget : Asked → Resolver → List ℕ → List ℕ × Data → Type 0
IsTarget asked r text member =
    (outcome : Result Data Data) × IsLookedUp asked r text outcome
    × (member ∷ [] ≡ spec.target_member outcome)

-- by what a dynamic reference chooses
abbrev pub choice_seen : Choice → candidates.Choice
choice_seen (choice.Named name) = candidates.Named name.now
choice_seen choice.Recursive = candidates.Recursive

-- the places of a world's own documents
abbrev pub ArePlaces : World → List Place → Type 0
ArePlaces world places = map listed_of places ≡ local_places (local_documents world)

-- the objects of references come after those of a list
abbrev pub Adds : Asked → List spec.Reference → List Value → List Value → Type 0
Adds asked rs old new =
    (ds : List Data) × AllZip (spec.IsReferred asked) rs ds × (map view new ≡ map view old ++ ds)
