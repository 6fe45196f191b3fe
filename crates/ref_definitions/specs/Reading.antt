-- The path that the tokens of a pointer are read as, and the first fault along them (RFC 6901, sections 4 and 7).
use Rattle.std.specs.Prelude.{◌≡◌, ℕ, List, [], ◌∷◌, ◌++◌, Some, None, Err, IsTrue, IsFalse, ⊤}
use Rattle.serde_json.specs.Data.{Data}
use Rattle.ref_paths.specs.Path.{Part, Key, Index, child_at, value_at}
use Rattle.ref_parts.specs.Pointer.{unescape}
use Rattle.ref_draft.specs.declared.draft.Draft.{Draft}
use Rattle.ref_draft.specs.Schema.{identifier}
use Rattle.ref_draft.specs.Children.{is_object}
use Rattle.ref_draft.specs.Beginnings.{is_array}
use Rattle.ref_draft.specs.Scan.{IsAccepted}
use Rattle.ref_uri.specs.Targets.{Refusal, uri_against}
use Rattle.ref_definitions.specs.Fault.{Fault, PointerToNowhere, InvalidArrayIndex, InvalidUri}
use Rattle.ref_definitions.specs.Bases.{Along}
use Rattle.ref_definitions.specs.Changes.{IsBaseAlong}
use Rattle.ref_definitions.specs.Pointers.{index_of}

-- a token is read as a part at a value: as a key of an object, unescaped, or as an index of an array (section 4)
abbrev pub IsReadAsPart : Data → List ℕ → Part → Type 0
IsReadAsPart value token (Key key) = IsTrue (is_object value) × (unescape token ≡ key)
IsReadAsPart value token (Index i) = IsTrue (is_array value) × (index_of token ≡ Some i)

-- tokens are read as a path from a value: the first as a part at the value, the others as a path from what is at that part
abbrev pub IsReadAs : Data → List (List ℕ) → List Part → Type 0
IsReadAs value [] [] = ⊤
IsReadAs value [] (part ∷ path) = ⊥
IsReadAs value (token ∷ tokens) [] = ⊥
IsReadAs value (token ∷ tokens) (part ∷ path) =
    IsReadAsPart value token part
    × ((there : Data) × (child_at value part ≡ Some there) × IsReadAs there tokens path)

-- A token is faulty at a value with a base: it is no index of an array; nothing is at its part; the value has no parts; or
-- what is at its part has an identifier that counts and doesn't resolve.
pub data IsFaultAt (draft : Draft) (pointer : List ℕ) (along : Along) (value : Data)
    (token : List ℕ) : Fault
    → Type 0 where
  no_index : IsTrue (is_array value) → index_of token ≡ None
      → IsFaultAt draft pointer along value token (InvalidArrayIndex pointer token)
  nothing_there : (part : Part) → IsReadAsPart value token part → child_at value part ≡ None
      → IsFaultAt draft pointer along value token (PointerToNowhere pointer)
  no_parts : IsFalse (is_array value) → IsFalse (is_object value)
      → IsFaultAt draft pointer along value token (PointerToNowhere pointer)
  no_base : (part : Part) (there : Data) (id : List ℕ) (refusal : Refusal)
      → IsReadAsPart value token part → child_at value part ≡ Some there
      → IsAccepted draft (along.since ++ part ∷ []) there → identifier draft there ≡ Some id
      → uri_against along.base id ≡ Err refusal
      → IsFaultAt draft pointer along value token (InvalidUri refusal)

-- The first fault along tokens: those before the faulty one are read as a path, with a value and a base there.
pub record IsFaultAlong (draft : Draft) (pointer start : List ℕ) (value : Data)
    (tokens : List (List ℕ)) (fault : Fault) : Type 0 where
  pub before : List (List ℕ)
  pub token : List ℕ
  pub after : List (List ℕ)
  pub are : tokens ≡ before ++ token ∷ after
  pub path : List Part
  pub reads : IsReadAs value before path
  pub there : Data
  pub is_at_path : value_at value path ≡ Some there
  pub along : Along
  pub bases : IsBaseAlong draft start value path along
  pub faulty : IsFaultAt draft pointer along there token fault
