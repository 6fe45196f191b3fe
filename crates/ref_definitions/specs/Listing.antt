-- The places of a registry's own documents, as they are listed.
use Rattle.std.specs.Prelude.{ℕ, suc, List, [], ◌∷◌, ◌++◌, map, Result}
use Rattle.serde_json.specs.Data.{Data}
use Rattle.ref_paths.specs.Path.{Part}
use Rattle.ref_draft.specs.declared.draft.Draft.{Draft}
use Rattle.ref_uri.specs.Targets.{Refusal}
use Rattle.ref_definitions.specs.World.{Layer}
use Rattle.ref_definitions.specs.Places.{Place, places}

-- what is listed of a place: the number of its document, its path and value there, its draft, and its base
pub record Listed : Type 0 where
  pub document : ℕ
  pub path : List Part
  pub value : Data
  pub draft : Draft
  pub base : Result (List ℕ) Refusal

-- a place of the document with this number
abbrev pub listed_place : ℕ → Place → Listed
listed_place number p =
    record {
      document = number;
      path = p.path;
      value = p.value;
      draft = p.draft;
      base = p.base;
    }

-- the places of documents, one document after another, counted from this number on
abbrev pub listed_from : ℕ → Layer → List Listed
listed_from number [] = []
listed_from number (d ∷ ds) = map (listed_place number) (places d) ++ listed_from (suc number) ds

-- the places of a registry's own documents, which are counted from 0
abbrev pub local_places : Layer → List Listed
local_places layer = listed_from 0 layer
