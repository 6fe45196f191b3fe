-- A pointer in a reference's fragment (RFC 6901, sections 3, 4 and 6), walked with the base along it.
use Rattle.std.specs.Prelude.{ℕ, ◌^◌, ◌&&◌, nat_lt, List, [], ◌∷◌, length, Option, Some, None, Result, Ok, Err, if◌then◌else◌}
use Rattle.std.specs.List.{list_all}
use Rattle.std.specs.Option.{ok_or}
use Rattle.std.specs.Char.{is_ascii_digit}
use Rattle.std.specs.Str.{is_utf8}
use Rattle.std.specs.Str.Parse.{without_leading_plus, digits_value}
use Rattle.percent_encoding.specs.Percent.{percent_decode}
use Rattle.serde_json.specs.Data.{Data, null, boolean, number, string, array, object}
use Rattle.serde_json.specs.Find.{get_item, get_member}
use Rattle.ref_paths.specs.Path.{Part, Key, Index}
use Rattle.ref_parts.specs.Pointer.{unescape, tokens}
use Rattle.ref_draft.specs.declared.draft.Draft.{Draft}
use Rattle.ref_definitions.specs.Results.{◌>>=◌}
use Rattle.ref_definitions.specs.Fault.{Fault, PointerToNowhere, InvalidPercentEncoding, InvalidArrayIndex, as_invalid_uri}
use Rattle.ref_definitions.specs.Bases.{Along, along_part}

-- decimal digits after a `+` or not, of a number of 64 bits; leading zeros don't matter, which is the crate's choice
unfoldable pub index_of : List ℕ → Option ℕ
index_of part =
    let digits = without_leading_plus part in
    if nat_lt 0 (length digits) && list_all is_ascii_digit digits
    && nat_lt (digits_value 10 digits) (2 ^ 64) then
    Some (digits_value 10 digits)
    else None

-- the part of a path that a decoded token is, and the value that it leads to
abbrev pub step_into : List ℕ → Data → List ℕ → Result (Part × Data) Fault
step_into pointer null token = Err (PointerToNowhere pointer)
step_into pointer (boolean b) token = Err (PointerToNowhere pointer)
step_into pointer (number n) token = Err (PointerToNowhere pointer)
step_into pointer (string s) token = Err (PointerToNowhere pointer)
step_into pointer (array ds) token =
    ok_or (index_of token) (InvalidArrayIndex pointer token)
    >>= λ i. ok_or (get_item i ds) (PointerToNowhere pointer) >>= λ d. Ok (Index i, d)
step_into pointer (object ms) token =
    ok_or (get_member (unescape token) ms) (PointerToNowhere pointer)
    >>= λ d. Ok (Key (unescape token), d)

-- the value along the tokens, with the base there; the first fault from the left ends it
abbrev pub walked_along : Draft → List ℕ → Along → Data → List (List ℕ)
    → Result (Data × Along) Fault
walked_along draft pointer along value [] = Ok (value, along)
walked_along draft pointer along value (token ∷ tokens) =
    step_into pointer value token >>= λ s. as_invalid_uri (along_part draft along s.0 s.1)
    >>= λ next. walked_along draft pointer next s.1 tokens

-- What follows a pointer's first `/` is percent-decoded as a whole, and then split.
abbrev pub pointed_value : Draft → List ℕ → List ℕ → Data → List ℕ → Result (Data × Along) Fault
pointed_value draft pointer base value text =
    if is_utf8 (percent_decode text)
    then walked_along draft pointer (record { base = base; since = [] }) value
    (tokens (percent_decode text))
    else Err (InvalidPercentEncoding pointer)
