-- That the tables of an index describe the places of its documents.
use Rattle.std.specs.Prelude.{◌≡◌, ℕ, Bool, true, List, [], Ok}
use Rattle.std.specs.List.{AllZip, Contains}
use Rattle.ref_uri.specs.Targets.{uri_against}
use Rattle.ref_parts.specs.Table as table
use Rattle.ref_parts.specs.Table.{last_value}
use Rattle.ref_definitions.specs.World.{Document, Layer}
use Rattle.ref_definitions.specs.Agreement.{ChildrenAreThere}
use Rattle.ref_definitions.specs.Cached.{Pair, pairs}
use Rattle.ref_index.specs.declared.entry.Entry.{Entry}
use Rattle.ref_index.specs.declared.entry.NamedEntry.{NamedEntry}
use Rattle.ref_index.specs.declared.found.ResolvedUri.{ResolvedUri}
use Rattle.ref_index.specs.Spots.{numbered_resources, numbered_names}
use Rattle.ref_index.specs.inner.NormalUris.{HaveNormalUris}
use Rattle.ref_index.specs.inner.Found.{IsResourceOf, IsNameOf}

-- an entry under a base and a text is the URI that the text means against the base, with the number that the table of
-- resources has for the URI
abbrev pub IsPairIn : List (table.Entry ℕ) → table.Entry ResolvedUri → Pair → Type 0
IsPairIn by_uri e p =
    (e.0 ≡ p.0) × (e.1 ≡ p.1) × (uri_against p.0 p.1 ≡ Ok e.2.uri.value)
    × (e.2.entry ≡ last_value e.2.uri.value [] by_uri)

-- a resolved URI with its number in a table of resources
abbrev pub numbered_uri : List (table.Entry ℕ) → ResolvedUri → ResolvedUri
numbered_uri by_uri r = record { uri = r.uri; entry = last_value r.uri.value [] by_uri }

-- the tables hold the resources and the names of the documents, each in its document, and what is resolved of them, each in
-- their order; the children of the documents' places are at their paths; and where the index says so, the documents' URIs are in
-- normal form
pub record IsIndexOf (layer : Layer) (entries : List Entry) (by_uri : List (table.Entry ℕ))
    (by_name : List (table.Entry NamedEntry)) (by_pair : List (table.Entry ResolvedUri))
    (is_normal : Bool) : Type 0 where
  pub resource : AllZip (IsResourceOf layer entries) by_uri (numbered_resources layer)
  pub name : AllZip (IsNameOf layer entries) by_name (numbered_names layer)
  pub pair : AllZip (IsPairIn by_uri) by_pair (pairs layer)
  pub children : (d : Document) → Contains layer d → ChildrenAreThere d
  pub normal : is_normal ≡ true → HaveNormalUris layer
