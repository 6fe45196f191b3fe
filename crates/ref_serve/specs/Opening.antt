-- What `open` gives.
use Rattle.std.specs.Prelude.{◌≡◌, ℕ, suc, Bool, true, false, List, [], ◌∷◌, ◌++◌, map, length, codes, Option, None, Some, is_some, option_and_then, unwrap_or, Result, Ok, Err, if◌then◌else◌}
use Rattle.std.specs.Option.{option_map_or}
use Rattle.std.specs.Result.{result_ok}
use Rattle.serde_json.specs.Data.{Data, null}
use Rattle.serde_json.specs.Find.{get, as_array}
use Rattle.ref_draft.specs.declared.draft.Draft.{Draft}
use Rattle.ref_draft.specs.Schema.{trimmed_text}
use Rattle.ref_parts.specs.Table.{Entry, last_value}
use Rattle.ref_uri.specs.Targets.{uri_of}
use Rattle.ref_definitions.specs.World.{Layer, World, local_documents}
use Rattle.ref_definitions.specs.Results.{◌>>=◌}
use Rattle.ref_definitions.specs.Fault.{Fault}
use Rattle.ref_definitions.specs.Preparing.{Given}
use Rattle.ref_definitions.specs.Pending.{Pending, given_of_builder}
use Rattle.ref_definitions.specs.Retrievers.{map_retriever}
use Rattle.referencing.specs.MetaSchemas.{given_of_meta_schemas}
use Rattle.ref_registries.specs.Worlds.{pending_of, IsWorld}
use Rattle.ref_calls.specs.Objects.{object_of, list_of, texts, whole}
use Rattle.ref_calls.specs.Errors.{fault_error, with_field}
use Rattle.ref_calls.specs.Calls.{number_in, draft_of, documents_of, documents_at, needed_documents, under_uris, keeps_faults}
use Rattle.ref_serve.specs.State.{OpenRegistry, Registries, registry_in}
use Rattle.ref_serve.specs.Mending.{Mended, IsMended}

-- ---- what is asked

-- What a registry is to be above: the layers of an open one, with the numbers of their registries, or no layers; or meta-schemas,
-- which are opened with it.
pub data Parent : Type 0 where
  AboveLayers : OpenRegistry → Parent
  AboveMetaSchemas : List (List ℕ × Data) → Parent

-- the documents that are prepared, by which draft, what may be retrieved for them, and up to which limit; and whether their faults
-- are kept
pub record Opening : Type 0 where
  pub draft : Draft
  pub limit : ℕ
  pub documents : List (List ℕ × Data)
  pub remote : List (List ℕ × Data)
  pub keeps : Bool

-- the limit, or else 10,000
abbrev pub limit_at : Option Data → Result ℕ Data
limit_at None = Ok 10000
limit_at (Some d) = number_in (codes "limit") d

-- what a new registry is above: the world of an open one, with its number and those of its parents
abbrev pub above_registry : ℕ × OpenRegistry → OpenRegistry
above_registry r = (r.1.0, r.0 ∷ r.1.1)

-- the open registry with a number
abbrev pub layers_in : Registries → Data → Result OpenRegistry Data
layers_in state value = registry_in state (codes "parent") value >>= λ r. Ok (above_registry r)

-- a list is that of meta-schemas, and anything else the number of an open registry
abbrev pub parent_in : Registries → Data → Result Parent Data
parent_in state value =
    if is_some (as_array value)
    then (documents_of (codes "parent") value >>= λ documents. Ok (AboveMetaSchemas documents))
    else (layers_in state value >>= λ layers. Ok (AboveLayers layers))

-- what is under `parent`, or else no layers
abbrev pub parent_at : Registries → Option Data → Result Parent Data
parent_at state None = Ok (AboveLayers ([], []))
parent_at state (Some value) = parent_in state value

-- the documents under `remote`, or else none, under the URIs that their texts mean
unfoldable pub remote_of : Option Data → Result (List (List ℕ × Data)) Data
remote_of found =
    documents_at (codes "remote") found
    >>= λ documents. under_uris (codes "remote") (unwrap_or documents [])

unfoldable pub opening_of : Registries → Data → Result (Parent × Opening) Data
opening_of state d = do
  draft ← draft_of d
  limit ← limit_at (get (codes "limit") d)
  keeps ← keeps_faults d
  parent ← parent_at state (get (codes "parent") d)
  documents ← needed_documents (get (codes "documents") d)
  remote ← remote_of (get (codes "remote") d)
  Ok (
    parent,
    record {
      draft = draft;
      limit = limit;
      documents = documents;
      remote = remote;
      keeps = keeps;
    },
  )

-- ---- what is prepared

-- what preparing is given: what the documents want is retrieved from the map, up to the limit
abbrev pub given_of_opening : Opening → World → List Pending → Given
given_of_opening o parents pending =
    given_of_builder (map_retriever o.remote) o.limit (Some o.draft) parents pending

-- the world of the documents above layers, or the fault
abbrev pub IsOpeningWorld : Opening → World → Result World Fault → Type 0
IsOpeningWorld o parents world = IsWorld (given_of_opening o parents) (pending_of o.documents) world

-- what is prepared of what is asked, and the members of the result that tell of it
pub record Prepared : Type 0 where
  pub opening : Opening
  pub members : List (List ℕ × Data)

-- where faults are kept: the documents as they are mended, for which nothing more is retrieved, and the list of the faults
abbrev pub prepared_of : Opening → Mended → Prepared
prepared_of o m = record {
  opening = record o { documents = m.documents; remote = [] };
  members = (codes "faults", list_of m.faults) ∷ [];
}

abbrev pub IsPreparedAs : Bool → Opening → World → Result Prepared Data → Type 0
IsPreparedAs false o parents outcome = outcome ≡ Ok (record { opening = o; members = [] })
IsPreparedAs true o parents outcome =
    (mended : Result Mended Data) × IsMended o.draft o.limit o.documents o.remote parents mended
    × (outcome ≡ (mended >>= λ m. Ok (prepared_of o m)))

-- what is asked, or where its faults are kept, what is made of it above parents
abbrev pub IsPrepared : Opening → World → Result Prepared Data → Type 0
IsPrepared o parents outcome = IsPreparedAs o.keeps o parents outcome

-- the world of meta-schemas, or the fault, as `Registry::from_meta_schemas` prepares them
abbrev pub IsMetaWorld : List (List ℕ × Data) → Result World Fault → Type 0
IsMetaWorld documents world = IsWorld given_of_meta_schemas (pending_of documents) world

-- ---- what is answered

-- documents under their URIs, with their numbers, which are counted from this one on
abbrev pub numbered_from : ℕ → Layer → List (Entry ℕ)
numbered_from number [] = []
numbered_from number (d ∷ ds) = (d.uri, [], number) ∷ numbered_from (suc number) ds

-- the URI that a document is under which is given under a text: `#` characters at its end are dropped
abbrev pub uri_given : List ℕ → Option (List ℕ)
uri_given text = result_ok (uri_of (trimmed_text text))

-- the number of the document that is under a URI
abbrev pub number_given : World → Option (List ℕ) → Data
number_given world uri =
    option_map_or (λ n. whole n)
    (option_and_then (λ u. last_value u [] (numbered_from 0 (local_documents world))) uri) null

-- the members of a result: the registry's number, the URIs of its own documents, and the numbers of those under given URIs
abbrev pub opened_members : ℕ → World → List (Option (List ℕ)) → List (List ℕ × Data)
opened_members number world uris =
    (codes "registry", whole number)
    ∷ (codes "documents", texts (map (λ d. d.uri) (local_documents world)))
    ∷ (codes "given", list_of (map (number_given world) uris)) ∷ []

-- What a registry is opened above: layers with the numbers of their registries; the registries that are open before it gets the
-- next number; and the members of the result that describe one that is opened with it.
pub record Below : Type 0 where
  pub layers : OpenRegistry
  pub registries : Registries
  pub members : List (List ℕ × Data)

-- the layers of open registries, or none
abbrev pub below_open : Registries → OpenRegistry → Below
below_open state layers = record { layers = layers; registries = state; members = [] }

-- the registry of meta-schemas, which gets the next number
abbrev pub below_meta : Registries → World → Below
below_meta state world = record {
  layers = above_registry (length state, (world, []));
  registries = state ++ Some ((world, []), []) ∷ [];
  members = (codes "parent", whole (length state)) ∷ [];
}

-- the registry of a world is opened; or there is the error of a fault, and nothing changes
abbrev pub IsOpenedIn : Opening → Below → Registries → Registries → Result World Fault
    → Result Data Data → Type 0
IsOpenedIn o below state next (Ok world) outcome =
    (outcome
    ≡ Ok
    (object_of
    (opened_members (length below.registries) world
    (map uri_given (map (λ d. d.0) o.documents))
    ++ below.members)))
    × (next ≡ below.registries ++ Some ((world, below.layers.1), []) ∷ [])
IsOpenedIn o below state next (Err fault) outcome =
    (outcome ≡ Err (fault_error fault)) × (next ≡ state)

-- with these members in the result too
abbrev pub with_members : List (List ℕ × Data) → Below → Below
with_members members below = record below { members = below.members ++ members }

-- the same of an outcome of preparing
abbrev pub IsOpenedFrom : Opening → Below → Registries → Registries → Result Prepared Data
    → Result Data Data → Type 0
IsOpenedFrom o below state next (Ok p) outcome =
    (world : Result World Fault) × IsOpeningWorld p.opening below.layers.0 world
    × IsOpenedIn o (with_members p.members below) state next world outcome
IsOpenedFrom o below state next (Err error) outcome = (outcome ≡ Err error) × (next ≡ state)

abbrev pub IsOpenedAbove : Opening → Below → Registries → Registries → Result Data Data → Type 0
IsOpenedAbove o below state next outcome =
    (prepared : Result Prepared Data) × IsPrepared o below.layers.0 prepared
    × IsOpenedFrom o below state next prepared outcome

-- above the registry of meta-schemas; or there is the error of their fault, and nothing changes
abbrev pub IsOpenedAboveMeta : Opening → Registries → Registries → Result World Fault
    → Result Data Data → Type 0
IsOpenedAboveMeta o state next (Ok world) outcome =
    IsOpenedAbove o (below_meta state world) state next outcome
IsOpenedAboveMeta o state next (Err fault) outcome =
    (outcome ≡ Err (with_field (codes "parent") (fault_error fault))) × (next ≡ state)

-- above layers, or above meta-schemas, an outcome of preparing which is first
abbrev pub IsOpenedBy : Parent → Opening → Registries → Registries → Result Data Data → Type 0
IsOpenedBy (AboveLayers layers) o state next outcome =
    IsOpenedAbove o (below_open state layers) state next outcome
IsOpenedBy (AboveMetaSchemas documents) o state next outcome =
    (world : Result World Fault) × IsMetaWorld documents world
    × IsOpenedAboveMeta o state next world outcome

-- the same of a call that may not be readable
abbrev pub IsOpenedAs : Result (Parent × Opening) Data → Registries → Registries
    → Result Data Data → Type 0
IsOpenedAs (Ok asked) state next outcome = IsOpenedBy asked.0 asked.1 state next outcome
IsOpenedAs (Err error) state next outcome = (outcome ≡ Err error) × (next ≡ state)
