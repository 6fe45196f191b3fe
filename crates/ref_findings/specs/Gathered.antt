-- Which documents are retrieved for sources: each URI that is wanted and that nothing has is asked for, one after another.
use Rattle.std.specs.Prelude.{◌≡◌, ℕ, ◌<◌, Bool, not, is_some, List, [], ◌∷◌, ◌++◌, flat_map, filter, length, bytes_eq, Option, Some, None, option_and_then}
use Rattle.std.specs.Option.{option_to_list}
use Rattle.std.specs.Result.{result_ok}
use Rattle.std.specs.List.{find, list_any}
use Rattle.serde_json.specs.Data.{Data}
use Rattle.ref_draft.specs.declared.draft.Draft.{Draft}
use Rattle.ref_definitions.specs.Places.{Place}
use Rattle.ref_definitions.specs.Wants.{reference_at, schema_at}
use Rattle.ref_definitions.specs.Preparing.{Retriever}
use Rattle.ref_uri.specs.Targets.{target}
use Rattle.ref_draft.specs.Schema.{text_under}
use Rattle.ref_findings.specs.Places.{nearest_base, dynamic_keyword}
use Rattle.ref_findings.specs.Sources.{Source, places_in, uris_in}

-- the URI that the `$ref` of a place points into, where it means one
abbrev pub referred_uri : Place → Option (List ℕ)
referred_uri p = option_and_then result_ok (reference_at (nearest_base p) p.value)

-- the URI that its dynamic reference points into, where it means one
abbrev pub dynamic_uri : Place → Option (List ℕ)
dynamic_uri p =
    option_and_then (λ text. result_ok (target (nearest_base p) text))
    (option_and_then (λ keyword. text_under keyword p.value) (dynamic_keyword p.draft))

-- the URI that its `$schema` names, where that is no known draft and means one
abbrev pub dialect_uri : Place → Option (List ℕ)
dialect_uri p = option_and_then result_ok (schema_at p.value)

-- the URIs that a place wants
abbrev pub wanted_at : Place → List (List ℕ)
wanted_at p =
    option_to_list (referred_uri p)
    ++ (option_to_list (dynamic_uri p) ++ option_to_list (dialect_uri p))

-- those that a source wants, place by place
abbrev pub wanted_by : Draft → Source → List (List ℕ)
wanted_by draft s = flat_map wanted_at (places_in draft s)

-- whether a URI is that of a source or of one of their places
abbrev pub is_known : Draft → List Source → List ℕ → Bool
is_known draft sources uri =
    list_any (λ known. bytes_eq known uri) (flat_map (uris_in draft) sources)

-- the first URI that sources want and that nothing in them has
abbrev pub next_wanted : Draft → List Source → Option (List ℕ)
next_wanted draft sources =
    find (λ uri. not (is_known draft sources uri)) (flat_map (wanted_by draft) sources)

-- what a retriever may do for a URI: return a tree, or refuse it
abbrev pub MayReturn : Retriever → List ℕ → Option Data → Type 0
MayReturn retriever uri (Some tree) = retriever.may_answer uri tree
MayReturn retriever uri None = (text : List ℕ) × retriever.may_refuse uri text

-- The retriever was asked for these URIs, one after another, each with the tree that it returned, or none where it
-- refused: each was the first that was wanted by then, by the sources and by what was returned. A URI that was refused
-- is known from then on.
pub data IsRun (retriever : Retriever) (draft : Draft) (sources : List Source) : List Source
    → Type 0 where
  begun : IsRun retriever draft sources []
  asked : (before : List Source) (uri : List ℕ) (tree : Option Data)
      → IsRun retriever draft sources before → next_wanted draft (sources ++ before) ≡ Some uri
      → MayReturn retriever uri tree
      → IsRun retriever draft sources (before ++ record { uri = uri; tree = tree } ∷ [])

-- whether a source has a tree
abbrev pub has_tree : Source → Bool
has_tree s = is_some s.tree

-- What was gathered is what was returned in such a run, and where it is less than the limit, nothing more is wanted.
pub record IsGathered (retriever : Retriever) (draft : Draft) (sources : List Source) (limit : ℕ)
    (gathered : List Source) : Type 0 where
  pub asked : List Source
  pub run : IsRun retriever draft sources asked
  pub returned : filter has_tree asked ≡ gathered
  pub complete : length gathered < limit → next_wanted draft (sources ++ asked) ≡ None
