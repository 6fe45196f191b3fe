-- The documents that are added to a builder, whose draft may still be set. Their order and drafts are this library's own rules.
use Rattle.std.specs.Prelude.{ℕ, List, [], ◌∷◌, ◌++◌, map, bytes_eq, Option, Result, Ok, if◌then◌else◌}
use Rattle.std.specs.List.{list_any}
use Rattle.std.specs.Option.{unwrap_or}
use Rattle.serde_json.specs.Data.{Data}
use Rattle.ref_draft.specs.declared.draft.Draft.{Draft}
use Rattle.ref_draft.specs.declared.draft.Draft.TheVariants.{Draft202012}
use Rattle.ref_draft.specs.Schema.{trimmed_text, detect}
use Rattle.ref_uri.specs.Targets.{Refusal, uri_of}
use Rattle.ref_definitions.specs.Results.{◌>>=◌}
use Rattle.ref_definitions.specs.World.{Document, Layer, World}
use Rattle.ref_definitions.specs.Preparing.{Retriever, Given}

-- what is added: the text of its URI, its tree, and its draft where it is given as a resource
pub record Addition : Type 0 where
  pub text : List ℕ
  pub tree : Data
  pub draft : Option Draft

-- a pending document: the URI that it will be under, its tree, and its draft where that was given
pub record Pending : Type 0 where
  pub uri : List ℕ
  pub tree : Data
  pub draft : Option Draft

-- the URI of an addition: what its text means by itself, the `#` characters at its end dropped
abbrev pub pending_of : Addition → Result Pending Refusal
pending_of a =
    uri_of (trimmed_text a.text)
    >>= λ uri. Ok (record { uri = uri; tree = a.tree; draft = a.draft })

-- Pending documents are in order of first addition: a later one under the same URI takes the earlier one's place.
unfoldable pub with_pending : List Pending → Pending → List Pending
with_pending ps p =
    if list_any (λ e. bytes_eq e.uri p.uri) ps then
    map (λ e. if bytes_eq e.uri p.uri then p else e) ps
    else ps ++ p ∷ []

-- the pending documents after one more addition, or why its URI means nothing
abbrev pub with_addition : List Pending → Addition → Result (List Pending) Refusal
with_addition ps a = pending_of a >>= λ p. Ok (with_pending ps p)

-- after additions one after another: the first refusal is the answer
abbrev pub with_additions : List Pending → List Addition → Result (List Pending) Refusal
with_additions ps [] = Ok ps
with_additions ps (a ∷ more) = with_addition ps a >>= λ next. with_additions next more

-- the draft that a builder detects with: the one that was set, or else 2020-12
abbrev pub builder_draft : Option Draft → Draft
builder_draft set = unwrap_or set Draft202012

-- a pending document's draft: the given one, or what the builder's detects on its tree
abbrev pub document_of : Draft → Pending → Document
document_of draft p =
    record { uri = p.uri; tree = p.tree; draft = unwrap_or p.draft (detect draft p.tree) }

-- the documents that preparing begins with, where the builder's draft was set or not
abbrev pub documents_of : Option Draft → List Pending → Layer
documents_of set ps = map (document_of (builder_draft set)) ps

-- what preparing is given by a builder: documents that are retrieved are values, so the builder's draft detects on them too
abbrev pub given_of_builder : Retriever → ℕ → Option Draft → World → List Pending → Given
given_of_builder retriever limit set parents ps = record {
  retriever = retriever;
  limit = limit;
  draft = builder_draft set;
  parents = parents;
  documents = documents_of set ps;
}
