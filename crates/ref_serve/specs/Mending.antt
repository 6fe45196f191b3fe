-- What `open` prepares where faults are kept: documents with `null` in place of each text for which a registry of them is refused,
-- and the list of these texts.
use Rattle.std.specs.Prelude.{◌≡◌, ℕ, Bool, false, ◌&&◌, ◌||◌, not, if◌then◌else◌, List, [], ◌∷◌, ◌++◌, map, flat_map, filter, codes, bytes_eq, Option, None, Some, option_and_then, Result, Ok, Err}
use Rattle.std.specs.Option.{option_to_list, option_map_or}
use Rattle.std.specs.List.{find}
use Rattle.serde_json.specs.Data.{Data, object, Members, no_members, member}
use Rattle.ref_draft.specs.declared.draft.Draft.{Draft}
use Rattle.ref_definitions.specs.World.{World}
use Rattle.ref_definitions.specs.Results.{◌>>=◌}
use Rattle.ref_definitions.specs.Retrievers.{map_retriever}
use Rattle.referencing.specs.Prepared.{contains_resource}
use Rattle.ref_findings.specs.Mending.{is_empty}
use Rattle.ref_findings.specs.Sources.{Source}
use Rattle.ref_findings.specs.Gathered.{IsGathered}
use Rattle.ref_findings.specs.Findings.{Finding, Problem, MissingDocument}
use Rattle.ref_findings.specs.Unmet.{unmet, without_texts}
use Rattle.ref_serve.specs.Faults.{sources_under, finding_object}

-- ---- which texts

-- the URI that isn't there
abbrev pub missed_uri : Problem → Option (List ℕ)
missed_uri (MissingDocument uri) = Some uri
missed_uri other = None

-- whether a parent has it
abbrev pub is_in_parents : World → Finding → Bool
is_in_parents parents f = option_map_or (contains_resource parents) (missed_uri f.problem) false

-- those of a document's texts that nothing in the parents meets either
abbrev pub unmet_above : World → List Finding → List Finding
unmet_above parents fs = filter (λ f. not (is_in_parents parents f)) fs

-- ---- a tree without them

-- whether a text is the identifier of a root
abbrev pub is_identifier : List ℕ → Bool
is_identifier keyword = bytes_eq keyword (codes "$id") || bytes_eq keyword (codes "id")

abbrev pub is_of_root : Finding → Bool
is_of_root f = is_empty f.path && option_map_or is_identifier f.keyword false

-- the keyword of the first that is
abbrev pub root_identifier : List Finding → Option (List ℕ)
root_identifier fs = option_and_then (λ f. f.keyword) (find is_of_root fs)

-- members without the one under a key
abbrev pub members_without : List ℕ → Members → Members
members_without key no_members = no_members
members_without key (member k d ms) =
    if bytes_eq key k then ms else member k d (members_without key ms)

-- an object without it
abbrev pub without_member : List ℕ → Data → Data
without_member key (object ms) = object (members_without key ms)
without_member key other = other

-- a tree with `null` in place of these texts, but for the identifier of the root, which is left out
abbrev pub mended_tree : List Finding → Data → Data
mended_tree [] tree = tree
mended_tree (f ∷ fs) tree =
    option_map_or (λ key. without_member key (without_texts (f ∷ fs) tree))
    (root_identifier (f ∷ fs)) (without_texts (f ∷ fs) tree)

-- ---- the documents

-- each document with its tree, where the texts of each are known
abbrev pub mended_each : List (List ℕ × Data) → List (List Finding) → List (List ℕ × Data)
mended_each [] found = []
mended_each (d ∷ ds) [] = d ∷ ds
mended_each (d ∷ ds) (fs ∷ found) = (d.0, mended_tree fs d.1) ∷ mended_each ds found

-- a source that was retrieved, under its URI
abbrev pub document_of : Source → List (List ℕ × Data)
document_of s = map (λ tree. (s.uri, tree)) (option_to_list s.tree)

-- the documents that are prepared, and the faults that are kept
pub record Mended : Type 0 where
  pub documents : List (List ℕ × Data)
  pub faults : List Data

-- the objects of what is found in a document
abbrev pub objects_of : List Finding → List Data
objects_of fs = flat_map (λ f. option_to_list (finding_object f)) fs

-- of documents in which these are found
abbrev pub mended_by : List (List ℕ × Data) → List (List Finding) → Mended
mended_by documents found = record {
  documents = mended_each documents found;
  faults = flat_map objects_of found;
}

-- of documents above parents
abbrev pub mended_above : World → Draft → List (List ℕ × Data) → Result Mended Data
mended_above parents draft documents = do
  sources ← sources_under (codes "documents") documents
  Ok (mended_by documents (map (unmet_above parents) (unmet draft sources)))

-- ---- the whole

-- The documents, and after them those of `remote` that they want and that these want in turn, as many as the limit at most.
abbrev pub IsMendedWith : Draft → ℕ → List (List ℕ × Data) → List (List ℕ × Data) → World
    → Result (List Source) Data → Result Mended Data → Type 0
IsMendedWith draft limit documents remote parents (Ok sources) outcome =
    (gathered : List Source) × IsGathered (map_retriever remote) draft sources limit gathered
    × (outcome ≡ mended_above parents draft (documents ++ flat_map document_of gathered))
IsMendedWith draft limit documents remote parents (Err error) outcome = outcome ≡ Err error

abbrev pub IsMended : Draft → ℕ → List (List ℕ × Data) → List (List ℕ × Data) → World
    → Result Mended Data → Type 0
IsMended draft limit documents remote parents outcome =
    IsMendedWith draft limit documents remote parents
    (sources_under (codes "documents") documents) outcome
