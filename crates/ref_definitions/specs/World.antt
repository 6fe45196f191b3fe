-- The documents that references are resolved among.
use Rattle.std.specs.Prelude.{ℕ, List, [], ◌∷◌}
use Rattle.serde_json.specs.Data.{Data}
use Rattle.ref_draft.specs.declared.draft.Draft.{Draft}
use Rattle.ref_draft.specs.Schema.{detect}

-- a document: the URI that it was added or retrieved under, its tree, and the draft of its root
pub record Document : Type 0 where
  pub uri : List ℕ
  pub tree : Data
  pub draft : Draft

-- the own documents of a registry, in order
abbrev pub Layer : Type 0
Layer = List Document

-- a registry's own layer, then its parent's, and so on
abbrev pub World : Type 0
World = List Layer

-- a tree under a URI as a document, where the registry's draft detects that of the root
abbrev pub document : Draft → List ℕ → Data → Document
document draft uri tree = record { uri = uri; tree = tree; draft = detect draft tree }

-- the local documents: those of the first layer
abbrev pub local_documents : World → Layer
local_documents [] = []
local_documents (layer ∷ parents) = layer
