-- Which of a registry's own documents a bundle needs (2020-12 Core, 9.3).
use Rattle.std.specs.Prelude.{ℕ, zero, suc, ◌==◌, Bool, ◌||◌, List, [], ◌∷◌, ◌++◌, flat_map, map, filter, length, codes, slice_get, Option, option_map, option_and_then, unwrap_or, Result, Ok, Err}
use Rattle.std.specs.List.{list_any}
use Rattle.std.specs.Option.{option_map_or, option_to_list}
use Rattle.std.specs.Result.{result_ok}
use Rattle.serde_json.specs.Data.{Data}
use Rattle.ref_paths.specs.Path.{Part}
use Rattle.ref_draft.specs.declared.draft.Draft.{Draft}
use Rattle.ref_draft.specs.Schema.{text_under}
use Rattle.ref_uri.specs.Targets.{Refusal, target, fragment_part}
use Rattle.ref_definitions.specs.World.{Document, Layer}
use Rattle.ref_definitions.specs.Places.{Place, places}
use Rattle.ref_definitions.specs.Resources.{resources_in, last_under}
use Rattle.ref_definitions.specs.Wants.{schema_at}

-- documents with their numbers, counted from this one on
abbrev pub counted_documents : ℕ → Layer → List (ℕ × Document)
counted_documents number [] = []
counted_documents number (d ∷ ds) = (number, d) ∷ counted_documents (suc number) ds

-- a place of a layer: the number of its document, and its path there
abbrev pub Site : Type 0
Site = ℕ × List Part

-- the URIs that identify places of a document, each with its place
abbrev pub borne_in : ℕ × Document → List (List ℕ × Site)
borne_in e = map (λ r. (r.0, (e.0, r.1.path))) (resources_in e.1)

-- those of a layer
abbrev pub sites_of_uris : Layer → List (List ℕ × Site)
sites_of_uris layer = flat_map borne_in (counted_documents 0 layer)

-- the place that a URI means: the last under it
abbrev pub site_under : Layer → List ℕ → Option Site
site_under layer uri = option_map (λ e. e.1) (last_under uri (sites_of_uris layer))

-- the number of its document
abbrev pub document_under : Layer → List ℕ → Option ℕ
document_under layer uri = option_map (λ s. s.0) (site_under layer uri)

-- what a place refers to: a URI, and a fragment of what that means
pub record Reference : Type 0 where
  pub uri : List ℕ
  pub fragment : List ℕ

-- what a text refers to from a base, where it means a URI
abbrev pub reference_of : List ℕ → List ℕ → Option Reference
reference_of base text =
    option_map (λ uri. record { uri = uri; fragment = fragment_part text })
    (result_ok (target base text))

-- the same of the text that a value has under a key
abbrev pub reference_under : List ℕ → List ℕ → Data → Option Reference
reference_under key base value = option_and_then (reference_of base) (text_under key value)

-- the custom meta-schema that a value names under `$schema`, as a whole
abbrev pub meta_schema_of : Data → Option Reference
meta_schema_of value =
    option_map (λ uri. record { uri = uri; fragment = [] })
    (option_and_then (λ named. result_ok named) (schema_at value))

-- what a place with this base refers to by its value, in this order (2020-12 Core, 8.2.3)
abbrev pub references_from : Result (List ℕ) Refusal → Data → List Reference
references_from (Ok base) value =
    option_to_list (reference_under (codes "$ref") base value)
    ++ option_to_list (reference_under (codes "$dynamicRef") base value)
    ++ option_to_list (meta_schema_of value)
references_from (Err refusal) value = []

abbrev pub references : Place → List Reference
references p = references_from p.base p.value

-- the URIs of what it refers to
abbrev pub targets_from : Result (List ℕ) Refusal → Data → List (List ℕ)
targets_from base value = map (λ r. r.uri) (references_from base value)

abbrev pub targets : Place → List (List ℕ)
targets p = targets_from p.base p.value

-- the documents that the places of a document refer to
abbrev pub referred_in : Layer → Document → List ℕ
referred_in layer d =
    flat_map (λ uri. option_to_list (document_under layer uri)) (flat_map targets (places d))

-- a place that is seen: the number of its document, its path and value there, its draft and its base
pub record Seen : Type 0 where
  pub document : ℕ
  pub path : List Part
  pub value : Data
  pub draft : Draft
  pub base : Result (List ℕ) Refusal

-- Further places of documents, in the order of documents: what references lead to where no keyword does, as definitions in
-- groups. Their identifiers name nothing.
abbrev pub Further : Type 0
Further = List (List Seen)

-- those of the document with a number
abbrev pub further_in : Further → ℕ → List Seen
further_in further number = unwrap_or (slice_get further number) []

-- the documents that seen places refer to
abbrev pub referred_by_seen : Layer → List Seen → List ℕ
referred_by_seen layer seen =
    flat_map (λ uri. option_to_list (document_under layer uri))
    (flat_map (λ s. targets_from s.base s.value) seen)

-- the documents that a document refers to, by its places and by further ones
abbrev pub referred_of : Layer → Further → ℕ × Document → List ℕ
referred_of layer further e =
    referred_in layer e.1 ++ referred_by_seen layer (further_in further e.0)

-- the same of the document with a number
abbrev pub referred_from : Layer → Further → ℕ → List ℕ
referred_from layer further number =
    option_map_or (λ d. referred_of layer further (number, d)) (slice_get layer number) []

-- whether a number is one of a list
abbrev pub is_among : List ℕ → ℕ → Bool
is_among numbers n = list_any (λ m. m == n) numbers

-- the numbers of a layer's documents
abbrev pub numbers : Layer → List ℕ
numbers layer = map (λ e. e.0) (counted_documents 0 layer)

-- some documents, and those that they refer to, in the order of documents
abbrev pub with_referred : Layer → Further → List ℕ → List ℕ
with_referred layer further some =
    let more = flat_map (referred_from layer further) some in filter
    (λ n. is_among some n || is_among more n) (numbers layer)

-- the same again and again
abbrev pub reached_documents : Layer → Further → ℕ → List ℕ → List ℕ
reached_documents layer further zero some = some
reached_documents layer further (suc rounds) some =
    reached_documents layer further rounds (with_referred layer further some)

-- The documents that a bundle of a root needs, in the order of documents: the root, and again and again those that needed ones
-- refer to. As many rounds as there are documents reach all of them.
abbrev pub numbers_of_needed : Layer → Further → ℕ → List ℕ
numbers_of_needed layer further root =
    reached_documents layer further (length layer) (filter (λ n. n == root) (numbers layer))

-- those documents with their numbers
abbrev pub needed_documents : Layer → Further → ℕ → List (ℕ × Document)
needed_documents layer further root =
    let some = numbers_of_needed layer further root in filter (λ e. is_among some e.0)
    (counted_documents 0 layer)
