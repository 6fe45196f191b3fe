-- What one visited place adds, and what was found in documents.
use Rattle.std.specs.Prelude.{◌≡◌, ℕ, List, [], ◌∷◌, ◌++◌, ◌≤◌, map, flat_map, take, drop, length, slice_get, Option, Some, None, Result, Ok, Err}
use Rattle.serde_json.specs.Data.{Data}
use Rattle.std.specs.List.{AllByRecursion, Contains}
use Rattle.ref_paths.specs.Path.{Part, value_at}
use Rattle.ref_uri.specs.Targets.{Refusal}
use Rattle.ref_uri.specs.declared.error.UriFault.{UriFault}
use Rattle.ref_definitions.specs.World.{Document, Layer}
use Rattle.ref_definitions.specs.Places.{Place, root, child_place, children_of, places}
use Rattle.ref_definitions.specs.Queue.{IsQueueBy}
use Rattle.ref_definitions.specs.Resources.{resource_of}
use Rattle.ref_definitions.specs.Anchors.{Named, named_under, named_at}
use Rattle.ref_definitions.specs.Cached.{identifier_pairs_at, reference_pairs_at, identifier_pairs, reference_pairs}
use Rattle.ref_definitions.specs.Wants.{Want, wants, faults}
use Rattle.ref_definitions.specs.Agreement.{ChildrenAreThere}
use Rattle.ref_draft.specs.Children.{Walked, AllAreThere, walked_children}
use Rattle.ref_draft.specs.declared.draft.Draft.{Draft}
use Rattle.ref_index.specs.declared.found.Found.{Found}
use Rattle.ref_index.specs.declared.queue.Visit.{Visit}
use Rattle.ref_index.specs.Spots.{with_number, numbered_resources, numbered_names}
use Rattle.ref_index.specs.inner.Found.{FoundLists, Holds, with_resources, with_names, with_wants, with_identifiers, with_references}
use Rattle.ref_index.specs.Visit.{place_of, value_of}
use Rattle.ref_index.specs.Faults.{IsFirstFault, faults_of}
use Rattle.ref_index.specs.Listed.{wants_of, ChildrenAreAt}

-- there is none of these faults, or the result says the first, or is out of memory
abbrev pub RefusesFor : {A : Type 0} → List Refusal → Result A UriFault → Type 0
RefusesFor faults (Ok done) = faults ≡ []
RefusesFor faults (Err fault) = IsFirstFault faults fault

-- the place is in the document with this number
pub record IsThereIn (layer : Layer) (number : ℕ) (p : Place) : Type 0 where
  pub document : Document
  pub numbered : slice_get layer number ≡ Some document
  pub value : value_at document.tree p.path ≡ Some p.value

-- a place under a URI of a document, where there is one
abbrev pub under_document : Option (List ℕ) → Place → List (List ℕ × Place)
under_document None p = []
under_document (Some uri) p = (uri, p) ∷ []

-- the entries of a place, that under a URI of its document first
abbrev pub resources_at : Option (List ℕ) → Place → List (List ℕ × Place)
resources_at under p = under_document under p ++ resource_of p

-- the names of a place under a URI of a document, where there is one
abbrev pub names_under : Option (List ℕ) → Place → List Named
names_under None p = []
names_under (Some uri) p = named_under uri p

-- the names of a place, those under a URI of its document first
abbrev pub names_at : Option (List ℕ) → Place → List Named
names_at under p = names_under under p ++ named_at p

-- its names under its base
abbrev pub names_of : Place → List Named
names_of p = named_at p

-- children came to the queue, below this path, with this base around them
abbrev pub Came : List Part → List ℕ → List Walked → List Visit → List Visit → Type 0
Came path base children queue after =
    (more : List Visit) × (after ≡ queue ++ more)
    × (map place_of more ≡ map (child_place path base) children)

-- the children of a place with this path, value, draft and base came to the queue, and are at their paths below it
abbrev pub ChildrenCame : List Part → Data → Draft → List ℕ → List Visit → List Visit → Type 0
ChildrenCame path value draft base queue after =
    Came path base (walked_children draft value) queue after
    × AllAreThere value (walked_children draft value)

-- what identifies and names a place is held too, first under a URI of its document, where there is one
abbrev pub with_meanings : ℕ → Option (List ℕ) → Place → FoundLists → FoundLists
with_meanings number under p held =
    with_names (with_resources held (with_number number (resources_at under p)))
    (with_number number (names_at under p))

-- all that is found of a place too
abbrev pub with_place : ℕ → Option (List ℕ) → Place → FoundLists → FoundLists
with_place number under p held =
    with_references
    (with_identifiers (with_wants (with_meanings number under p held) (wants_of p))
    (identifier_pairs_at p)) (reference_pairs_at p)

-- what was found has that of a place too, and where it is a root under a URI of its document
abbrev pub AddsPlace : ℕ → Option (List ℕ) → Place → Found → Found → Type 0
AddsPlace number under p old new =
    (layer : Layer) (held : FoundLists) → Holds layer old held → IsThereIn layer number p
    → Holds layer new (with_place number under p held)

-- all that is found of places of a document too, after what its root is under its URI
abbrev pub with_places : Document → ℕ → List Place → FoundLists → FoundLists
with_places d number visited held = record {
  resources = held.resources ++ with_number number ((d.uri, root d) ∷ flat_map resource_of visited);
  names = held.names
      ++ with_number number (named_under d.uri (root d) ++ flat_map names_of visited);
  wants = held.wants ++ flat_map wants_of visited;
  identifiers = held.identifiers ++ flat_map identifier_pairs_at visited;
  references = held.references ++ flat_map reference_pairs_at visited;
}

-- what was found has that of places of a document too, after that of its root under its URI
abbrev pub AddsPlaces : Document → ℕ → List Place → Found → Found → Type 0
AddsPlaces d number visited old new =
    (layer : Layer) (held : FoundLists) → slice_get layer number ≡ Some d → Holds layer old held
    → Holds layer new (with_places d number visited held)

-- A place was visited: what it is identified by, is named and wants was added, it has no fault, and its children came
-- to the queue.
pub record IsVisited (number : ℕ) (under : Option (List ℕ)) (v : Visit) (old new : Found)
    (queue after : List Visit) : Type 0 where
  pub added : AddsPlace number under (place_of v) old new
  pub faultless : faults_of (place_of v) ≡ []
  pub more : List Visit
  pub grown : after ≡ queue ++ more
  pub children : map place_of more ≡ children_of (place_of v)
  pub are_there : AllAreThere (value_of v.value) (walked_children v.draft (value_of v.value))

-- Places of a document were visited from the root on: what they are identified by, are named and want was added, none has a
-- fault, and their children are at their paths.
pub record IsWalked (d : Document) (number : ℕ) (old new : Found)
    (visited : List Place) : Type 0 where
  pub added : AddsPlaces d number visited old new
  pub faultless : flat_map faults_of visited ≡ []
  pub children : AllByRecursion ChildrenAreAt visited

-- all places of a document were visited, or the result says the first of their faults, or is out of memory
abbrev pub WalksOver : {A : Type 0} → Document → ℕ → Found → Found → Result A UriFault → Type 0
WalksOver d number old new (Ok done) = IsWalked d number old new (places d)
WalksOver d number old new (Err fault) = IsFirstFault (flat_map faults_of (places d)) fault

-- each place's value is at its path
abbrev pub AllAreIn : Document → List Place → Type 0
AllAreIn d ps = AllByRecursion (λ p. value_at d.tree p.path ≡ Some p.value) ps

-- what holds of the queue before each visit
pub record IsAt (d : Document) (number : ℕ) (old new : Found) (queue : List Visit)
    (head : ℕ) : Type 0 where
  pub within : head ≤ length queue
  pub order : IsQueueBy children_of d (map place_of (take head queue))
      (map place_of (drop head queue))
  pub are_there : AllAreIn d (map place_of queue)
  pub walk : IsWalked d number old new (map place_of (take head queue))

-- all that the documents of a layer have, with these wants
abbrev pub held_of : Layer → List Want → FoundLists
held_of layer wanted = record {
  resources = numbered_resources layer;
  names = numbered_names layer;
  wants = wanted;
  identifiers = identifier_pairs layer;
  references = reference_pairs layer;
}

-- What was found in documents is all that they have, none has a fault, and the children of their places are at their paths.
pub record IsFound (layer : Layer) (f : Found) : Type 0 where
  pub held : Holds layer f (held_of layer (wants layer))
  pub faultless : faults layer ≡ []
  pub children : (d : Document) → Contains layer d → ChildrenAreThere d
