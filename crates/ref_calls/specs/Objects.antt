-- Objects of answers.
use Rattle.std.specs.Prelude.{◌≡◌, ◌≤◌, ℕ, false, List, [], ◌∷◌, ◌++◌, map, codes, Option, None, Some}
use Rattle.json.specs.Lex.{tokens}
use Rattle.json.specs.Print.{print}
use Rattle.serde_json.specs.Data.{Data, number, string, array, object, unsigned, Members, no_members, put, depth}
use Rattle.serde_json.specs.View.{items_of}
use Rattle.serde_json.specs.Read.{read, max_depth}
use Rattle.serde_json.specs.Written.{compact_text, has_float, IsInOrder}

-- members with these put among them, one after another
abbrev pub with_all : List (List ℕ × Data) → Members → Members
with_all [] ms = ms
with_all (e ∷ es) ms = with_all es (put e.0 e.1 ms)

-- the object with these members
abbrev pub object_of : List (List ℕ × Data) → Data
object_of es = object (with_all es no_members)

-- a list
abbrev pub list_of : List Data → Data
list_of ds = array (items_of ds)

-- a list of texts
abbrev pub texts : List (List ℕ) → Data
texts ts = list_of (map (λ t. string t) ts)

-- a whole number
abbrev pub whole : ℕ → Data
whole n = number (unsigned n)

-- the member `id` of an answer, where the call had one
abbrev pub id_member : Option Data → List (List ℕ × Data)
id_member None = []
id_member (Some id) = (codes "id", id) ∷ []

-- an answer: its result or its error, under that key, and the `id` of the call
abbrev pub answer_of : Option Data → List ℕ → Data → Data
answer_of id key value = object_of ((key, value) ∷ id_member id)

-- The text of a value in a line: its compact text, where it holds no float. With a float it is the compact printing of
-- its tokens, which have each item and member once and in order and each whole number in decimal. Where the value nests
-- no deeper than 127, it reads back as it.
pub record IsLine (d : Data) (json : List ℕ) : Type 0 where
  pub text : has_float d ≡ false → json ≡ compact_text d
  pub compact : json ≡ print (tokens json)
  pub order : IsInOrder json d
  pub reads_back : depth d ≤ max_depth → read json ≡ Some d

-- that text and a line feed
unfoldable pub IsLineOf : Data → List ℕ → Type 0
IsLineOf d text = (json : List ℕ) × (text ≡ json ++ 10 ∷ []) × IsLine d json
