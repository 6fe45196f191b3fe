-- That what the walk has found is what the definitions list.
use Rattle.std.specs.Prelude.{◌≡◌, ℕ, List, [], ◌++◌, map, slice_get, Bool, Some, Ok}
use Rattle.std.specs.List.{AllZip, list_any}
use Rattle.std.specs.Str.{bytes_eq}
use Rattle.std.specs.HashSet.{contains}
use Rattle.std.specs.declared.alloc.Global.{Global}
use Rattle.std.specs.declared.rc.Rc.{Rc}
use Rattle.ref_uri.specs.Targets.{uri_against}
use Rattle.ref_parts.specs.Table as table
use Rattle.ref_draft.specs.Anchors.{Kind}
use Rattle.ref_definitions.specs.World.{Layer}
use Rattle.ref_definitions.specs.Places.{Place}
use Rattle.ref_definitions.specs.Anchors.{Named}
use Rattle.ref_definitions.specs.Cached.{Pair}
use Rattle.ref_definitions.specs.Wants as wants
use Rattle.ref_definitions.specs.Wants.{Want as Wanted}
use Rattle.ref_index.specs.declared.entry.Entry.{Entry}
use Rattle.ref_index.specs.declared.entry.NamedEntry.{NamedEntry}
use Rattle.ref_index.specs.declared.found.Found.{Found}
use Rattle.ref_index.specs.declared.found.Want.{Want}
use Rattle.ref_index.specs.declared.found.ResolvedUri.{ResolvedUri}
use Rattle.ref_index.specs.declared.found.Cause.{Cause}
use Rattle.ref_index.specs.declared.found.Cause.TheVariants.{Reference, MetaSchema}
use Rattle.ref_index.specs.Entries.{IsEntryOf, kind_of}

-- the entry with a number describes a place of the document with this number
abbrev pub IsNumberOf : Layer → List Entry → ℕ → ℕ → Place → Type 0
IsNumberOf layer entries number n p =
    (e : Entry) × (slice_get entries n ≡ Some e) × IsEntryOf layer e p × (e.document ≡ number)

-- an entry under a URI and the empty text is that of a resource
abbrev pub IsResourceOf : Layer → List Entry → table.Entry ℕ → ℕ × (List ℕ × Place) → Type 0
IsResourceOf layer entries e r =
    (e.0 ≡ r.1.0) × (e.1 ≡ []) × IsNumberOf layer entries r.0 e.2 r.1.1

-- the entry of an anchor of a place under a URI
abbrev pub name_entry : List ℕ → Place → List ℕ × Kind → Named
name_entry uri p a = record { uri = uri; name = a.0; kind = a.1; place = p }

-- an entry under a URI and a name is that of an anchor
abbrev pub IsNameOf : Layer → List Entry → table.Entry NamedEntry → ℕ × Named → Type 0
IsNameOf layer entries e n =
    (e.0 ≡ n.1.uri) × (e.1 ≡ n.1.name) × (kind_of e.2.is_dynamic ≡ n.1.kind)
    × IsNumberOf layer entries n.0 e.2.entry n.1.place

-- why a URI is wanted
abbrev pub cause_of : Cause → wants.Cause
cause_of Reference = wants.Reference
cause_of MetaSchema = wants.MetaSchema

-- a want
abbrev pub want_of : Want → Wanted
want_of w = record { cause = cause_of w.cause; uri = w.uri.value }

-- an entry under a base and a text is the URI that the text means against the base
abbrev pub IsPairOf : table.Entry ResolvedUri → Pair → Type 0
IsPairOf e p = (e.0 ≡ p.0) × (e.1 ≡ p.1) × (uri_against p.0 p.1 ≡ Ok e.2.uri.value)

-- the handles are of one URI
abbrev pub is_same : Rc (List ℕ) Global → Rc (List ℕ) Global → Bool
is_same u v = bytes_eq u.value v.value

-- What may be found, each list in its order: resources and names, each with the number of its document, wants, and what
-- identifiers and what references are resolved from.
pub record FoundLists : Type 0 where
  pub resources : List (ℕ × (List ℕ × Place))
  pub names : List (ℕ × Named)
  pub wants : List Wanted
  pub identifiers : List Pair
  pub references : List Pair

-- nothing is held
abbrev pub nothing_held : FoundLists
nothing_held = record { resources = []; names = []; wants = []; identifiers = []; references = [] }

-- these resources are held too, after the others
abbrev pub with_resources : FoundLists → List (ℕ × (List ℕ × Place)) → FoundLists
with_resources held more = record held { resources = held.resources ++ more }

-- these names too
abbrev pub with_names : FoundLists → List (ℕ × Named) → FoundLists
with_names held more = record held { names = held.names ++ more }

-- these wants too
abbrev pub with_wants : FoundLists → List Wanted → FoundLists
with_wants held more = record held { wants = held.wants ++ more }

-- these pairs of identifiers too
abbrev pub with_identifiers : FoundLists → List Pair → FoundLists
with_identifiers held more = record held { identifiers = held.identifiers ++ more }

-- these pairs of references too
abbrev pub with_references : FoundLists → List Pair → FoundLists
with_references held more = record held { references = held.references ++ more }

-- What was found is this, each list in its order: of each resource and each name an entry of the document with its number,
-- each want, and of each pair its URI; the set of URIs is that of the resources. Of entries that none of them names nothing is
-- said.
pub record Holds (layer : Layer) (f : Found) (held : FoundLists) : Type 0 where
  pub by_uri : AllZip (IsResourceOf layer f.entries.items) f.resources held.resources
  pub by_name : AllZip (IsNameOf layer f.entries.items) f.names held.names
  pub wanted : map want_of f.wants.items ≡ held.wants
  pub of_identifiers : AllZip IsPairOf f.identifiers held.identifiers
  pub of_references : AllZip IsPairOf f.references held.references
  pub known : (uri : Rc (List ℕ) Global)
      → contains is_same f.identified uri ≡ list_any (λ r. bytes_eq r.1.0 uri.value) held.resources
