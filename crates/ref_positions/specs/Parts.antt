-- Where the keys and the values of a text are, by what it has in its order.
use Rattle.std.specs.Prelude.{ℕ, ◌+◌, cond, nat_lt, List, [], ◌∷◌, ◌++◌, Option, Some, None}
use Rattle.std.specs.List.{fold}
use Rattle.ref_positions.specs.Paths.{Path, member, item, same_path}

-- what a text has: a key, the beginning of an object or of an array, a scalar, each with the offset of its first byte; and the end of an object or of an array
pub data Token : Type 0 where
  key : List ℕ → ℕ → Token
  object : ℕ → Token
  array : ℕ → Token
  scalar : ℕ → Token
  close : Token

-- what comes next: the value at a path; a key of the object at a path, or its end; or nothing
pub data Next : Type 0 where
  value : Path → Next
  name : Path → Next
  nothing : Next

-- what comes after the value at a path
abbrev pub after : Path → Next
after [] = nothing
after (member k ∷ p) = name p
after (item index ∷ p) = value (item (index + 1) ∷ p)

-- what comes after an end where the value at a path would come: it ends the array that this is an item of
abbrev pub ended : Path → Next
ended [] = value []
ended (member k ∷ p) = value (member k ∷ p)
ended (item index ∷ p) = after p

-- what comes after a token; one that can't come there is passed over
abbrev pub next : Next → Token → Next
next (value p) (object start) = name p
next (value p) (array start) = value (item 0 ∷ p)
next (value p) (scalar start) = after p
next (value p) close = ended p
next (value p) (key k start) = value p
next (name p) (key k start) = value (member k ∷ p)
next (name p) close = after p
next (name p) (object start) = name p
next (name p) (array start) = name p
next (name p) (scalar start) = name p
next nothing t = nothing

-- the key of a member or a value, with its path, the number of its token, and the offset of its first byte
pub data Part : Type 0 where
  a_key : Path → ℕ × ℕ → Part
  a_value : Path → ℕ × ℕ → Part

-- what a token begins
abbrev pub begun : Next → ℕ → Token → List Part
begun (value p) n (object start) = a_value p (n, start) ∷ []
begun (value p) n (array start) = a_value p (n, start) ∷ []
begun (value p) n (scalar start) = a_value p (n, start) ∷ []
begun (value p) n close = []
begun (value p) n (key k start) = []
begun (name p) n (key k start) = a_key (member k ∷ p) (n, start) ∷ []
begun (name p) n close = []
begun (name p) n (object start) = []
begun (name p) n (array start) = []
begun (name p) n (scalar start) = []
begun nothing n t = []

-- the keys and the values of tokens, in their order, the first of which has a number
abbrev pub parts : Next → ℕ → List Token → List Part
parts before n [] = []
parts before n (t ∷ ts) = begun before n t ++ parts (next before t) (n + 1) ts

-- what comes after tokens
abbrev pub passed : Next → List Token → Next
passed before ts = fold next before ts

abbrev pub later_key : Path → Option (ℕ × ℕ) → Part → Option (ℕ × ℕ)
later_key p found (a_key q at) = cond (same_path q p) (Some at) found
later_key p found (a_value q at) = found

abbrev pub later_value : Path → Option (ℕ × ℕ) → Part → Option (ℕ × ℕ)
later_value p found (a_key q at) = found
later_value p found (a_value q at) = cond (same_path q p) (Some at) found

-- the last key at a path, and the last value: its number and its offset
abbrev pub last_key : Path → List Part → Option (ℕ × ℕ)
last_key p ps = fold (later_key p) None ps

abbrev pub last_value : Path → List Part → Option (ℕ × ℕ)
last_value p ps = fold (later_value p) None ps

-- what is in a value: it comes after it
abbrev pub within : Option (ℕ × ℕ) → Option (ℕ × ℕ) → Option (ℕ × ℕ)
within None part = None
within (Some above) None = None
within (Some above) (Some part) = cond (nat_lt above.0 part.0) (Some part) None

-- the value at a path, and its key. Of members with the same key the last one counts: what is in a value is in the last one at its path
abbrev pub value_in : List Part → Path → Option (ℕ × ℕ)
value_in ps [] = last_value [] ps
value_in ps (s ∷ p) = within (value_in ps p) (last_value (s ∷ p) ps)

abbrev pub key_in : List Part → Path → Option (ℕ × ℕ)
key_in ps [] = last_key [] ps
key_in ps (s ∷ p) = within (value_in ps p) (last_key (s ∷ p) ps)
