-- The tokens of a text of JSON, with the offsets that they are found at.
use Rattle.std.specs.Prelude.{ℕ, ◌≡◌, ◌+◌, List, [], ◌∷◌, Option, take, length}
use Rattle.json.specs.Token as json
use Rattle.json.specs.Lex.{tokens}
use Rattle.ref_positions.specs.Paths.{Path}
use Rattle.ref_positions.specs.Parts.{Token, key, object, array, scalar, close, value, parts, passed}
use Rattle.ref_positions.specs.Walks.{IsWalk, IsCounted}
use Rattle.ref_positions.specs.declared.walk.Found.{Found}
use Rattle.ref_positions.specs.declared.walk.Walk.{Walk}

-- a token of JSON that is found at an offset; the one that says that a text is no JSON counts as a scalar
abbrev pub token_at : json.Token → ℕ → Token
token_at json.begin_object start = object start
token_at json.begin_array start = array start
token_at json.end_object start = close
token_at json.end_array start = close
token_at (json.key text) start = key text start
token_at (json.string text) start = scalar start
token_at (json.number text) start = scalar start
token_at (json.boolean b) start = scalar start
token_at json.null start = scalar start
token_at json.bad start = scalar start

-- tokens that are found at these offsets
abbrev pub tokens_at : List json.Token → List ℕ → List Token
tokens_at [] starts = []
tokens_at (t ∷ ts) [] = []
tokens_at (t ∷ ts) (start ∷ starts) = token_at t start ∷ tokens_at ts starts

-- the tokens of a text, of which there is one for a byte and one more at most
abbrev pub tokens_in : List ℕ → List json.Token
tokens_in text = take (length text + 1) (tokens text)

-- a walk has passed the tokens of a text, each at some offset
abbrev pub IsThrough : List ℕ → List (Option Path) → Walk → Type 0
IsThrough text paths walk =
    (starts : List ℕ) × (length starts ≡ length (tokens_in text))
    × IsWalk paths walk (length starts) (passed (value []) (tokens_at (tokens_in text) starts))
    (parts (value []) 0 (tokens_at (tokens_in text) starts))

-- what counts in the tokens of a text, each of which is found at some offset
abbrev pub AreFoundInJson : List ℕ → List (Option Path) → List Found → Type 0
AreFoundInJson text paths found =
    (starts : List ℕ) × (length starts ≡ length (tokens_in text))
    × IsCounted paths found (parts (value []) 0 (tokens_at (tokens_in text) starts))
