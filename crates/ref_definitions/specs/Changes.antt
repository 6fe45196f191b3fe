-- The base along a path, given by its changes. This is the rule that `Bases.along_part` computes, part by part.
use Rattle.std.specs.Prelude.{◌≡◌, ℕ, List, [], ◌∷◌, ◌++◌, Some, Ok}
use Rattle.serde_json.specs.Data.{Data}
use Rattle.ref_paths.specs.Path.{Part, value_at}
use Rattle.ref_draft.specs.declared.draft.Draft.{Draft}
use Rattle.ref_draft.specs.Schema.{identifier}
use Rattle.ref_draft.specs.Scan.{IsAccepted}
use Rattle.ref_uri.specs.Targets.{uri_against}
use Rattle.ref_definitions.specs.Bases.{Along}

-- An identifier changes the base: the parts since the last change are accepted at a value whose identifier means another URI.
pub record IsChange (draft : Draft) (base : List ℕ) (since : List Part) (value : Data)
    (uri : List ℕ) : Type 0 where
  pub accepted : IsAccepted draft since value
  pub id : List ℕ
  pub is : identifier draft value ≡ Some id
  pub means : uri_against base id ≡ Ok uri
  pub another : ¬ (uri ≡ base)

-- nothing changes the base: an identifier that counts means it
abbrev pub Stays : Draft → List ℕ → List Part → Data → Type 0
Stays draft base since value =
    (id : List ℕ) → IsAccepted draft since value → identifier draft value ≡ Some id
    → uri_against base id ≡ Ok base

-- one part after a path leads to a value where the base stays
pub record StaysAfter (draft : Draft) (value : Data) (path : List Part) (part : Part)
    (along : Along) : Type 0 where
  pub there : Data
  pub is_there : value_at value (path ++ part ∷ []) ≡ Some there
  pub stays : Stays draft along.base (along.since ++ part ∷ []) there

-- one part after a path leads to a value whose identifier changes the base to a URI
pub record ChangesAfter (draft : Draft) (value : Data) (path : List Part) (part : Part)
    (along : Along) (uri : List ℕ) : Type 0 where
  pub there : Data
  pub is_there : value_at value (path ++ part ∷ []) ≡ Some there
  pub change : IsChange draft along.base (along.since ++ part ∷ []) there uri

-- The base at a path of a value is that of the last change along it, or the base at its start; and what is after that
-- change are the parts since.
pub data IsBaseAlong (draft : Draft) (start : List ℕ) (value : Data) : List Part → Along
    → Type 0 where
  begun : IsBaseAlong draft start value [] (record { base = start; since = [] })
  stayed : (path : List Part) (part : Part) (along : Along)
      → IsBaseAlong draft start value path along → StaysAfter draft value path part along
      → IsBaseAlong draft start value (path ++ part ∷ [])
      (record { base = along.base; since = along.since ++ part ∷ [] })
  changed : (path : List Part) (part : Part) (along : Along) (uri : List ℕ)
      → IsBaseAlong draft start value path along → ChangesAfter draft value path part along uri
      → IsBaseAlong draft start value (path ++ part ∷ []) (record { base = uri; since = [] })

-- a path of a value leads to what was found, with the base along it
pub record LeadsAlong (draft : Draft) (start : List ℕ) (value found : Data)
    (along : Along) : Type 0 where
  pub path : List Part
  pub there : value_at value path ≡ Some found
  pub bases : IsBaseAlong draft start value path along
