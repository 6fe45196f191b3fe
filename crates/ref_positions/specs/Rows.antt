-- Literals for rows that compute.
use Rattle.std.specs.Prelude.{ℕ, List, [], ◌∷◌, codes, Option, Some, None}
use Rattle.json.specs.Token as json
use Rattle.ref_positions.specs.Paths.{Path, member}
use Rattle.ref_positions.specs.declared.walk.Found.{Found}
use Rattle.ref_positions.specs.Parts.{Token, key, object, array, scalar, close}

-- U+00E9, U+20AC and U+1F600, of two, three and four bytes (RFC 3629, 3)
abbrev pub letters : List ℕ
letters = 195 ∷ 169 ∷ 226 ∷ 130 ∷ 172 ∷ 240 ∷ 159 ∷ 152 ∷ 128 ∷ []

-- what a text has that begins with `{"a": [1, 2], "b": 3}`
abbrev pub listed : List Token
listed = object 0 ∷ key (codes "a") 1 ∷ array 6 ∷ scalar 7 ∷ scalar 10 ∷ close ∷ key (codes "b") 14 ∷ scalar 19 ∷ close ∷ []

-- and one with `{"a": {"b": 1}, "a": {"c": 2}}`, in which a key comes twice
abbrev pub twice : List Token
twice = object 0 ∷ key (codes "a") 1 ∷ object 6 ∷ key (codes "b") 7 ∷ scalar 12 ∷ close ∷ key (codes "a") 16 ∷ object 21 ∷ key (codes "c") 22 ∷ scalar 27 ∷ close ∷ close ∷ []

-- the whole value and its member `a`, and where they are in ref_yaml's row `named`, `{a: 'b'}`
abbrev pub asked : List (Option Path)
asked = Some [] ∷ Some (member (codes "a") ∷ []) ∷ []

abbrev pub named_tokens : List Token
named_tokens = object 0 ∷ key (codes "a") 1 ∷ scalar 4 ∷ close ∷ []

abbrev pub named_found : List Found
named_found = record { key = None; value = Some (0, 0) } ∷ record { key = Some (1, 1); value = Some (2, 4) } ∷ []

-- the tokens of `{"a":"b"}` as JSON
abbrev pub named_json : List json.Token
named_json = json.begin_object ∷ json.key (codes "a") ∷ json.string (codes "b") ∷ json.end_object ∷ []
