-- Why a line is no JSON that is read, over the tokens and the grammar of RFC 8259.
use Rattle.std.specs.Prelude.{ℕ, suc, ◌-◌, Bool, false, not, ◌&&◌, ◌||◌, ◌==◌, nat_lt, List, [], ◌∷◌, codes, is_some, if◌then◌else◌}
use Rattle.std.specs.Str.{is_utf8}
use Rattle.json.specs.Token.{Token, begin_object, end_object, begin_array, end_array, key, string, number, boolean, null, bad}
use Rattle.json.specs.Lex.{tokens}
use Rattle.json.specs.Json.{document}
use Rattle.ref_calls.specs.declared.why.NotJson.{NotJson}
use Rattle.ref_calls.specs.declared.why.NotJson.TheVariants.{Encoding, Depth, Number, Surrogate, Syntax}

-- how many arrays and objects are open after a token
abbrev pub open_after : ℕ → Token → ℕ
open_after n begin_object = suc n
open_after n end_object = n - 1
open_after n begin_array = suc n
open_after n end_array = n - 1
open_after n (key s) = n
open_after n (string s) = n
open_after n (number s) = n
open_after n (boolean b) = n
open_after n null = n
open_after n bad = n

-- whether more than 127 are open at once after one of these tokens, which end at the first fault
abbrev pub is_deep : ℕ → List Token → Bool
is_deep n [] = false
is_deep n (t ∷ ts) = nat_lt 127 (open_after n t) || is_deep (open_after n t) ts

-- whether bytes are JSON by the grammar, which says nothing of the size of numbers (RFC 8259, 2 and 6)
abbrev pub is_json : List ℕ → Bool
is_json text = is_utf8 text && is_some (document text)

-- a byte after two others: the `d` of an escape `\ud`, by which each half of a surrogate pair is escaped, counts as `0`
abbrev pub read_after : ℕ → ℕ → ℕ → ℕ
read_after a b c =
    if (a == 92) && ((b == 117) && ((c == 100) || (c == 68))) then 48 else c

-- bytes after two others, each so: half of a pair counts as another character
abbrev pub with_halves : ℕ → ℕ → List ℕ → List ℕ
with_halves a b [] = []
with_halves a b (c ∷ cs) = read_after a b c ∷ with_halves b c cs

-- why a line is no JSON: it is no UTF-8; it nests too deep; it is JSON, but a number is beyond the range of a double; it is JSON
-- but for half of a surrogate pair; or it is none by the grammar
unfoldable pub why : List ℕ → NotJson
why line =
    if not (is_utf8 line) then Encoding
    else (if is_deep 0 (tokens line) then Depth
    else (if is_some (document line) then Number
    else (if is_json (with_halves 0 0 line) then Surrogate else Syntax)))

-- the name of the reason
abbrev pub reason_name : NotJson → List ℕ
reason_name Encoding = codes "encoding"
reason_name Depth = codes "depth"
reason_name Number = codes "number"
reason_name Surrogate = codes "surrogate"
reason_name Syntax = codes "syntax"

-- the sentence for people
abbrev pub reason_text : NotJson → List ℕ
reason_text Encoding = codes "The line is no JSON: it is not UTF-8"
reason_text Depth = codes "The line nests deeper than 127 levels, which are read at most"
reason_text Number = codes "The line has a number beyond the range of a double"
reason_text Surrogate = codes "The line has half of a surrogate pair, which is no character"
reason_text Syntax = codes "The line is no JSON"
