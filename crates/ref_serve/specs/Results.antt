-- The results of calls that change no registry.
use Rattle.std.specs.Prelude.{◌≡◌, ℕ, Bool, false, List, [], ◌∷◌, ◌++◌, map, codes, Option, None, Some, ok_or, Result, Ok, Err, if◌then◌else◌}
use Rattle.serde_json.specs.Data.{Data, string, Items, no_items, item}
use Rattle.serde_json.specs.Find.{as_str, as_array}
use Rattle.ref_parts.specs.Pointer.{pointer_text}
use Rattle.ref_paths.specs.Segment.{part_of}
use Rattle.ref_draft.specs.declared.draft.Draft.{Draft}
use Rattle.ref_draft.specs.Schema.{detect}
use Rattle.ref_definitions.specs.World.{World}
use Rattle.ref_definitions.specs.Results.{◌>>=◌}
use Rattle.ref_definitions.specs.Fault.{Fault, as_invalid_uri}
use Rattle.ref_definitions.specs.Lookup.{Resolver, Found, lookup, in_subresource}
use Rattle.ref_definitions.specs.Recursive.{lookup_recursive}
use Rattle.ref_resolver.specs.declared.location.Location.{Location}
use Rattle.ref_index.specs.Spots.{Spot}
use Rattle.ref_resolver.specs.Locations.{IsValueAt, lookup_location, recursive_reference, location_view}
use Rattle.ref_draft.specs.Names.{draft_name}
use Rattle.ref_calls.specs.declared.fault.Wrong.TheVariants.{InvalidField}
use Rattle.ref_calls.specs.Objects.{object_of, list_of, whole}
use Rattle.ref_calls.specs.Errors.{field_error, fault_error, as_error, at_index}
use Rattle.ref_calls.specs.Calls.{required_member, text_in, each_item, is_set, uri_at, base_of, draft_of, schema_of}
use Rattle.ref_calls.specs.Scopes.{GivenScope, scope_in, scope_of, scope_answered}
use Rattle.ref_serve.specs.State.{OpenRegistry, Registries, scopes_at, registry_under, layer_number}

-- what may be given once something is read, or the error of what can't be read
abbrev pub Then : {A : Type 0} → Result A Data → (A → Result Data Data → Type 0) → Result Data Data
    → Type 0
Then (Ok x) may outcome = may x outcome
Then (Err error) may outcome = outcome ≡ Err error

-- ---- what is asked

-- An open registry with its number and the scopes that are kept for it, and how answers are given: whether they have values, whether
-- dynamic references have candidates, and with which kept scope the one that is asked from ends.
pub record Asked : Type 0 where
  pub number : ℕ
  pub world : World
  pub parents : List ℕ
  pub scopes : List (List (List ℕ))
  pub values : Bool
  pub candidates : Bool
  pub kept : Option (ℕ × List (List ℕ))

abbrev pub asked_with : Registries → ℕ × OpenRegistry → Bool → Asked
asked_with state r values =
    record {
      number = r.0;
      world = r.1.0;
      parents = r.1.1;
      scopes = scopes_at state r.0;
      values = values;
      candidates = false;
      kept = None;
    }

unfoldable pub asked_of : Registries → Data → Result Asked Data
asked_of state d = do
  registry ← registry_under state d (codes "registry")
  values ← is_set (codes "values") d
  Ok (asked_with state registry values)

-- what is asked, and where it is looked up from: a base and a dynamic scope
pub record Start : Type 0 where
  pub asked : Asked
  pub resolver : Resolver

abbrev pub start_from : Asked → List ℕ → GivenScope → Start
start_from asked base scope =
    record {
      asked = record asked { kept = scope.kept };
      resolver = record { base = base; scope = scope.uris };
    }

-- from the base and the dynamic scope of a call
unfoldable pub start_of : Asked → Data → Result Start Data
start_of asked d = do
  base ← base_of d
  scope ← scope_of asked.scopes d
  Ok (start_from asked base scope)

-- ---- places

-- the members of a base and a dynamic scope
abbrev pub resolver_members : Option (ℕ × List (List ℕ)) → Resolver → List (List ℕ × Data)
resolver_members kept r =
    (codes "base", string r.base) ∷ (codes "scope", scope_answered kept r.scope) ∷ []

-- the member of a value, where it is asked for
abbrev pub value_member : Bool → Data → List (List ℕ × Data)
value_member values value = if values then (codes "value", value) ∷ [] else []

-- the members of a value that is found at a location
abbrev pub found_members : Asked → Location → Data → Draft → List (List ℕ × Data)
found_members asked l value draft =
    (codes "registry", whole (layer_number asked.number asked.parents l.layer))
    ∷ (codes "document", whole l.document)
    ∷ (codes "pointer", string (pointer_text (map part_of l.path.items)))
    ∷ (codes "draft", string (draft_name draft)) ∷ value_member asked.values value

-- ---- lookup and recursive

-- the object of what is found: this is its place, and the value is there
abbrev pub IsFoundAt : Asked → Option (ℕ × Spot) → Found → Data → Type 0
IsFoundAt asked at found d =
    (l : Location) × (at ≡ Some (location_view l)) × IsValueAt asked.world l found.value
    × (d
    ≡ object_of
    (found_members asked l found.value found.draft
    ++ resolver_members asked.kept found.resolver))

-- the object of what a look-up finds at a place, or the error of its fault
abbrev pub IsFound : Asked → Option (ℕ × Spot) → Result Found Fault → Result Data Data → Type 0
IsFound asked at (Ok found) (Ok d) = IsFoundAt asked at found d
IsFound asked at (Ok found) (Err e) = ⊥
IsFound asked at (Err fault) (Ok d) = ⊥
IsFound asked at (Err fault) (Err e) = e ≡ fault_error fault

unfoldable pub IsLookedUp : Asked → Resolver → List ℕ → Result Data Data → Type 0
IsLookedUp asked r reference outcome =
    IsFound asked (lookup_location asked.world r reference) (lookup asked.world r reference) outcome

unfoldable pub IsRecursive : Asked → Resolver → Result Data Data → Type 0
IsRecursive asked r outcome =
    IsFound asked (lookup_location asked.world r (recursive_reference asked.world r))
    (lookup_recursive asked.world r) outcome

-- an object, or one with an error
abbrev pub listed_outcome : Result Data Data → Data
listed_outcome (Ok d) = d
listed_outcome (Err e) = object_of ((codes "error", e) ∷ [])

-- what an item of a list asks: a reference, and where it is looked up from
abbrev pub Question : Type 0
Question = Start × List ℕ

-- one of a list: what it means, or an object with its error
abbrev pub IsListed : Question → Data → Type 0
IsListed q d =
    (outcome : Result Data Data) × IsLookedUp q.0.asked q.0.resolver q.1 outcome
    × (d ≡ listed_outcome outcome)

-- the three items of a list
abbrev pub three_of : Items → Option (Data × Data × Data)
three_of (item a (item b (item c no_items))) = Some (a, b, c)
three_of other = None

-- a base, a scope and a text
abbrev pub question_of : Asked → Data × Data × Data → Result Question Data
question_of asked (base, scope, text) = do
  uri ← uri_at (codes "base") base
  uris ← scope_in asked.scopes scope
  reference ← text_in (codes "reference") text
  Ok (start_from asked uri uris, reference)

-- what the items of a list ask
abbrev pub three_asked : Asked → Items → Result Question Data
three_asked asked items =
    ok_or (three_of items) (field_error InvalidField (codes "reference")) >>= question_of asked

-- a text is looked up from where the call is, and a list of three from its own base and scope
abbrev pub question_as : Start → Option (List ℕ) → Option Items → Result Question Data
question_as s (Some text) items = Ok (s, text)
question_as s None (Some items) = three_asked s.asked items
question_as s None None = Err (field_error InvalidField (codes "reference"))

-- what an item asks
abbrev pub question_in : Start → ℕ → Data → Result Question Data
question_in s n d = at_index n (question_as s (as_str d) (as_array d))

-- each of them, in order
abbrev pub AreListed : List Question → List Data → Type 0
AreListed [] [] = Unit {0}
AreListed [] (d ∷ ds) = ⊥
AreListed (q ∷ more) [] = ⊥
AreListed (q ∷ more) (d ∷ ds) = IsListed q d × AreListed more ds

abbrev pub IsList : List Question → Result Data Data → Type 0
IsList questions outcome =
    (ds : List Data) × AreListed questions ds × (outcome ≡ Ok (list_of ds))

-- a text is looked up, and each item of a list
abbrev pub IsReferenceAs : Start → Option (List ℕ) → Option Items → Result Data Data → Type 0
IsReferenceAs s (Some reference) items outcome = IsLookedUp s.asked s.resolver reference outcome
IsReferenceAs s None (Some items) outcome =
    Then (each_item (question_in s) 0 items) IsList outcome
IsReferenceAs s None None outcome = outcome ≡ Err (field_error InvalidField (codes "reference"))

abbrev pub IsReference : Start → Data → Result Data Data → Type 0
IsReference s d outcome = IsReferenceAs s (as_str d) (as_array d) outcome

-- `lookup`
unfoldable pub IsLookup : Registries → Data → Result Data Data → Type 0
IsLookup state d outcome =
    Then (asked_of state d)
    (λ asked. Then (start_of asked d)
    (λ s. Then (required_member (codes "reference") d) (IsReference s))) outcome

-- `recursive`
unfoldable pub IsRecursiveCall : Registries → Data → Result Data Data → Type 0
IsRecursiveCall state d outcome =
    Then (asked_of state d)
    (λ asked. Then (start_of asked d) (λ s. IsRecursive s.asked s.resolver)) outcome

-- ---- enter

-- the base and the dynamic scope inside of a schema, whose draft is detected
abbrev pub entered_resolver : Resolver → Draft → Data → Result Resolver Data
entered_resolver r draft schema =
    as_error (as_invalid_uri (in_subresource r (detect draft schema) schema))

-- `enter`
unfoldable pub enter_result : Registries → Data → Result Data Data
enter_result state d = do
  asked ← asked_of state d
  s ← start_of asked d
  schema ← schema_of d
  draft ← draft_of d
  inner ← entered_resolver s.resolver draft schema
  Ok (object_of (resolver_members s.asked.kept inner))

-- ---- scope

-- the registry for which a scope is kept, by its number, and the scope
unfoldable pub keeping_of : Registries → Data → Result (ℕ × List (List ℕ)) Data
keeping_of state d = do
  registry ← registry_under state d (codes "registry")
  value ← required_member (codes "scope") d
  scope ← scope_in (scopes_at state registry.0) value
  Ok (registry.0, scope.uris)

-- the object of the number that it gets
abbrev pub kept_object : ℕ → Data
kept_object number = object_of ((codes "scope", whole number) ∷ [])
