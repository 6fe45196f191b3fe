-- The program's documents and places as the definitions see them.
use Rattle.std.specs.Prelude.{◌≡◌, ℕ, List, [], ◌∷◌, ◌++◌, map, flat_map, nat_lt, length, slice_get, if◌then◌else◌, Option, option_map, option_and_then}
use Rattle.std.specs.List.{AllByRecursion}
use Rattle.std.specs.Option.{option_to_list}
use Rattle.std.specs.Result.{result_ok}
use Rattle.serde_json.specs.View.{view}
use Rattle.ref_paths.specs.Path.{value_at}
use Rattle.ref_draft.specs.Schema.{identifier}
use Rattle.ref_definitions.specs.World.{Document, Layer}
use Rattle.ref_definitions.specs.Places.{Place, places}
use Rattle.ref_definitions.specs.Listing.{Listed}
use Rattle.ref_bundle.specs.Needed.{counted_documents, Reference, Seen}
pub use Rattle.ref_bundle.specs.Parts.{part_document, numbered_part, HasBase}
use Rattle.ref_bundle.specs.Saying.{seen_spot}
use Rattle.ref_bundle.specs.declared.own.Own.{Own}
use Rattle.ref_bundle.specs.declared.uris.Reference as rust_reference

-- one of the definition's
abbrev pub see : ℕ → Place → Seen
see number p =
    record { document = number; path = p.path; value = p.value; draft = p.draft; base = p.base }

-- those of a document
abbrev pub seen_in : ℕ × Document → List Seen
seen_in e = map (see e.0) (places e.1)

-- the URI that it has by its own identifier
abbrev pub own_uri_of : Seen → Option (List ℕ)
own_uri_of s = option_and_then (λ id. result_ok s.base) (identifier s.draft s.value)

-- what a place refers to
abbrev pub seen_reference : rust_reference.Reference → Reference
seen_reference r = record { uri = r.uri.value; fragment = r.fragment.now }

-- ---- documents

abbrev pub document_in : Own → Document
document_in own = record { uri = own.uri.now; tree = view own.tree.now; draft = own.draft }

abbrev pub numbered_document : Own → ℕ × Document
numbered_document own = (own.number, document_in own)

-- its places are those of the document
abbrev pub HasPlaces : Own → Type 0
HasPlaces own = map seen_spot own.places.items ≡ seen_in (numbered_document own)

-- documents as a layer
abbrev pub layer_in : List Own → Layer
layer_in owns = map document_in owns

-- they are numbered in their order, and have their places
pub record AreOwn (owns : List Own) : Type 0 where
  pub order : map numbered_document owns ≡ counted_documents 0 (layer_in owns)
  pub places : AllByRecursion HasPlaces owns

-- ---- places that are listed, document by document

-- a place that is listed, where its value is in its document
abbrev pub see_listed : Layer → Listed → Option Seen
see_listed layer l =
    option_map
    (λ v. record {
      document = l.document;
      path = l.path;
      value = v;
      draft = l.draft;
      base = l.base;
    })
    (option_and_then (λ d. value_at d.tree l.path) (slice_get layer l.document))

-- those whose values are there
abbrev pub all_seen : Layer → List Listed → List Seen
all_seen layer ls = flat_map (λ l. option_to_list (see_listed layer l)) ls

-- groups with one more in the last of them
abbrev pub put_last : {X : Type 0} → List (List X) → X → List (List X)
put_last [] x = []
put_last (g ∷ []) x = (g ++ x ∷ []) ∷ []
put_last (g ∷ h ∷ gs) x = g ∷ put_last (h ∷ gs) x

-- with a place in the last of them, where its document has been begun, or else in a new one
abbrev pub put_place : List (List Seen) → Seen → List (List Seen)
put_place gs s = if nat_lt s.document (length gs) then put_last gs s else gs ++ (s ∷ []) ∷ []

-- with places, one after another
abbrev pub gathered_places : List (List Seen) → List Seen → List (List Seen)
gathered_places gs [] = gs
gathered_places gs (s ∷ ss) = gathered_places (put_place gs s) ss
