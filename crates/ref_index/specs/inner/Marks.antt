-- A JSON tree as a list of marks, which reads back as the tree, and a draft as a number: what the codes of documents are made of.
use Rattle.std.specs.Prelude.{◌≡◌, ℕ, ℤ, pos, List, [], ◌∷◌, Bool, true, false, cond, ◌==◌, refl}
use Rattle.std.specs.Float.{Float, nan}
use Rattle.std.specs.Coded.{Coded, code_by, coded×, coded_ℕ, coded_ℤ, coded_list}
use base.Stored.{coded_float}
use Rattle.std.proofs.Common.{ap, ◌∙◌}
use Rattle.serde_json.specs.Data.{Num, unsigned, negative, float, Data, null, boolean, number, string, array, object, Items, no_items, item, Members, no_members, member}
use Rattle.ref_draft.specs.declared.draft.Draft.{Draft}
use Rattle.ref_draft.specs.declared.draft.Draft.TheVariants.{Draft4, Draft6, Draft7, Draft201909, Draft202012, Unknown}

-- a tree is written as marks, from the front
pub data Mark : Type 0 where
  is_null : Mark
  is_boolean : Bool → Mark
  is_number : Num → Mark
  is_string : List ℕ → Mark
  is_array : Mark
  is_item : Mark
  ends_items : Mark
  is_object : Mark
  is_member : List ℕ → Mark
  ends_members : Mark

-- what a mark holds: which kind it is, a text or a number in a list, a negative number, and a float
abbrev Parts : Type 0
Parts = ℕ × (List ℕ × (ℤ × Float))

-- the parts of a mark
abbrev to_parts : Mark → Parts
to_parts is_null = (0, ([], (pos 0, nan)))
to_parts (is_boolean true) = (1, ([], (pos 0, nan)))
to_parts (is_boolean false) = (2, ([], (pos 0, nan)))
to_parts (is_number (unsigned n)) = (3, (n ∷ [], (pos 0, nan)))
to_parts (is_number (negative z)) = (4, ([], (z, nan)))
to_parts (is_number (float x)) = (5, ([], (pos 0, x)))
to_parts (is_string s) = (6, (s, (pos 0, nan)))
to_parts is_array = (7, ([], (pos 0, nan)))
to_parts is_item = (8, ([], (pos 0, nan)))
to_parts ends_items = (9, ([], (pos 0, nan)))
to_parts is_object = (10, ([], (pos 0, nan)))
to_parts (is_member k) = (11, (k, (pos 0, nan)))
to_parts ends_members = (12, ([], (pos 0, nan)))

-- the first number of a list
abbrev first : List ℕ → ℕ
first [] = 0
first (n ∷ ns) = n

-- the mark that has these parts
abbrev from_parts : Parts → Mark
from_parts p =
    cond (p.0 == 0) is_null (cond (p.0 == 1) (is_boolean true) (cond (p.0 == 2) (is_boolean false)
    (cond (p.0 == 3) (is_number (unsigned (first p.1.0)))
    (cond (p.0 == 4) (is_number (negative p.1.1.0)) (cond (p.0 == 5) (is_number (float p.1.1.1))
    (cond (p.0 == 6) (is_string p.1.0)
    (cond (p.0 == 7) is_array (cond (p.0 == 8) is_item (cond (p.0 == 9) ends_items
    (cond (p.0 == 10) is_object (cond (p.0 == 11) (is_member p.1.0) ends_members)))))))))))

pub from_parts-to_parts : (m : Mark) → from_parts (to_parts m) ≡ m
from_parts-to_parts is_null = refl
from_parts-to_parts (is_boolean true) = refl
from_parts-to_parts (is_boolean false) = refl
from_parts-to_parts (is_number (unsigned n)) = refl
from_parts-to_parts (is_number (negative z)) = refl
from_parts-to_parts (is_number (float x)) = refl
from_parts-to_parts (is_string s) = refl
from_parts-to_parts is_array = refl
from_parts-to_parts is_item = refl
from_parts-to_parts ends_items = refl
from_parts-to_parts is_object = refl
from_parts-to_parts (is_member k) = refl
from_parts-to_parts ends_members = refl

abbrev pub marks_code : Coded (List Mark)
marks_code =
    coded_list
    (code_by Parts
    (coded× coded_ℕ
    (coded× (coded_list coded_ℕ)
    (coded× coded_ℤ coded_float))) to_parts from_parts from_parts-to_parts)

-- the marks of a tree before others
abbrev mutual
  pub marks_of : Data → List Mark → List Mark
  marks_of null rest = is_null ∷ rest
  marks_of (boolean b) rest = is_boolean b ∷ rest
  marks_of (number n) rest = is_number n ∷ rest
  marks_of (string s) rest = is_string s ∷ rest
  marks_of (array ds) rest = is_array ∷ marks_of_items ds rest
  marks_of (object ms) rest = is_object ∷ marks_of_members ms rest

  marks_of_items : Items → List Mark → List Mark
  marks_of_items no_items rest = ends_items ∷ rest
  marks_of_items (item d ds) rest = is_item ∷ marks_of d (marks_of_items ds rest)

  marks_of_members : Members → List Mark → List Mark
  marks_of_members no_members rest = ends_members ∷ rest
  marks_of_members (member k d ms) rest = is_member k ∷ marks_of d (marks_of_members ms rest)

-- What is read back from the end, onto what is there: a tree, or the items or members of one.
pub data Piece : Type 0 where
  tree : Data → Piece
  trees : Items → Piece
  members : Members → Piece

-- what a mark makes of the pieces that were read after it
abbrev as_array : List Piece → List Piece
as_array (trees ds ∷ rest) = tree (array ds) ∷ rest
as_array rest = rest

abbrev as_item : List Piece → List Piece
as_item (tree d ∷ trees ds ∷ rest) = trees (item d ds) ∷ rest
as_item rest = rest

abbrev as_object : List Piece → List Piece
as_object (members ms ∷ rest) = tree (object ms) ∷ rest
as_object rest = rest

abbrev as_member : List ℕ → List Piece → List Piece
as_member k (tree d ∷ members ms ∷ rest) = members (member k d ms) ∷ rest
as_member k rest = rest

abbrev read : Mark → List Piece → List Piece
read is_null rest = tree null ∷ rest
read (is_boolean b) rest = tree (boolean b) ∷ rest
read (is_number n) rest = tree (number n) ∷ rest
read (is_string s) rest = tree (string s) ∷ rest
read is_array rest = as_array rest
read is_item rest = as_item rest
read ends_items rest = trees no_items ∷ rest
read is_object rest = as_object rest
read (is_member k) rest = as_member k rest
read ends_members rest = members no_members ∷ rest

abbrev pub read_all : List Mark → List Piece
read_all [] = []
read_all (m ∷ ms) = read m (read_all ms)

mutual
  pub reads : (d : Data) (rest : List Mark) → read_all (marks_of d rest) ≡ tree d ∷ read_all rest
  reads null rest = refl
  reads (boolean b) rest = refl
  reads (number n) rest = refl
  reads (string s) rest = refl
  reads (array ds) rest = ap as_array (reads_items ds rest)
  reads (object ms) rest = ap as_object (reads_members ms rest)

  reads_items : (ds : Items) (rest : List Mark)
      → read_all (marks_of_items ds rest) ≡ trees ds ∷ read_all rest
  reads_items no_items rest = refl
  reads_items (item d ds) rest =
      ap as_item (reads d (marks_of_items ds rest) ∙ ap (λ ps. tree d ∷ ps) (reads_items ds rest))

  reads_members : (ms : Members) (rest : List Mark)
      → read_all (marks_of_members ms rest) ≡ members ms ∷ read_all rest
  reads_members no_members rest = refl
  reads_members (member k d ms) rest =
      ap (as_member k)
      (reads d (marks_of_members ms rest) ∙ ap (λ ps. tree d ∷ ps) (reads_members ms rest))

abbrev pub tree_at_front : List Piece → Data
tree_at_front (tree d ∷ rest) = d
tree_at_front rest = null

-- ---- drafts

abbrev pub draft_number : Draft → ℕ
draft_number Draft4 = 0
draft_number Draft6 = 1
draft_number Draft7 = 2
draft_number Draft201909 = 3
draft_number Draft202012 = 4
draft_number Unknown = 5

abbrev pub draft_at : ℕ → Draft
draft_at n =
    cond (n == 0) Draft4
    (cond (n == 1) Draft6
    (cond (n == 2) Draft7 (cond (n == 3) Draft201909 (cond (n == 4) Draft202012 Unknown))))

pub draft_at-draft_number : (d : Draft) → draft_at (draft_number d) ≡ d
draft_at-draft_number Draft4 = refl
draft_at-draft_number Draft6 = refl
draft_at-draft_number Draft7 = refl
draft_at-draft_number Draft201909 = refl
draft_at-draft_number Draft202012 = refl
draft_at-draft_number Unknown = refl
