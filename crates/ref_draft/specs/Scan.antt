-- Where an identifier may change the base along a pointer: the parts since the last change lead from schema to schema.
-- This is the project's own rule; the keywords are the drafts'.
use Rattle.std.specs.Prelude.{◌≡◌, ℕ, List, [], ◌∷◌, ◌++◌, IsTrue, Bool, ◌||◌, ◌⊎◌, ⊤}
use Rattle.std.specs.List.{AllByRecursion}
use Rattle.serde_json.specs.Data.{Data}
use Rattle.ref_paths.specs.Path.{Part, Key, Index}
use Rattle.ref_draft.specs.declared.draft.Draft.{Draft}
use Rattle.ref_draft.specs.Keywords.{row, is_one_of, is_before_2020, is_items_or_dependencies}
use Rattle.ref_draft.specs.Children.{Child, is_object}

-- whether a keyword's value is a schema
abbrev pub is_value_keyword : Draft → List ℕ → Bool
is_value_keyword d keyword = is_one_of keyword (row d).values

-- whether a keyword's elements or members are schemas, so that one further part leads to each
abbrev pub is_child_keyword : Draft → List ℕ → Bool
is_child_keyword d keyword = is_one_of keyword (row d).arrays || is_one_of keyword (row d).maps

-- a piece of a word: an index, a value keyword, or a child keyword with the part after it
pub data Piece : Type 0 where
  AnIndex : ℕ → Piece
  AValue : List ℕ → Piece
  AChild : List ℕ → Part → Piece

-- the parts of a piece
abbrev pub parts_of : Piece → List Part
parts_of (AnIndex i) = Index i ∷ []
parts_of (AValue keyword) = Key keyword ∷ []
parts_of (AChild keyword part) = Key keyword ∷ part ∷ []

-- the parts of pieces, one after another
abbrev pub spelled_path : List Piece → List Part
spelled_path [] = []
spelled_path (piece ∷ pieces) = parts_of piece ++ spelled_path pieces

-- a draft has the piece
abbrev pub IsPieceOf : Draft → Piece → Type 0
IsPieceOf d (AnIndex i) = ⊤
IsPieceOf d (AValue keyword) = IsTrue (is_value_keyword d keyword)
IsPieceOf d (AChild keyword part) = IsTrue (is_child_keyword d keyword)

-- the pieces of a word of a draft
abbrev pub IsWord : Draft → List Piece → Type 0
IsWord d pieces = AllByRecursion (IsPieceOf d) pieces

-- the parts are a word
pub record SpellsWord (d : Draft) (parts : List Part) : Type 0 where
  pub pieces : List Piece
  pub word : IsWord d pieces
  pub spells : parts ≡ spelled_path pieces

-- before 2020-12: the parts are a word, then `items` or `dependencies`, then any parts, and the value is an object
pub record PassesItems (d : Draft) (parts : List Part) (value : Data) : Type 0 where
  pub before : IsTrue (is_before_2020 d)
  pub object : IsTrue (is_object value)
  pub pieces : List Piece
  pub keyword : List ℕ
  pub rest : List Part
  pub word : IsWord d pieces
  pub items : IsTrue (is_items_or_dependencies keyword)
  pub spells : parts ≡ spelled_path pieces ++ Key keyword ∷ rest

-- The parts are accepted at a value: an identifier there may change the base
abbrev pub IsAccepted : Draft → List Part → Data → Type 0
IsAccepted d parts value = SpellsWord d parts ⊎ PassesItems d parts value

-- the parts followed by a child's path are accepted at the child, where that is an object
abbrev pub AcceptsChildren : Draft → List Part → List Child → Type 0
AcceptsChildren d parts cs =
    AllByRecursion
    (λ child. IsTrue (is_object child.1) → IsAccepted d (parts ++ child.0) child.1) cs
