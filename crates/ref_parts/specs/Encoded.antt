-- Text as a URI's fragment holds it: RFC 3986, sections 2.1 to 2.3 and 3.5.
use Rattle.std.specs.Prelude.{◌≡◌, ◌<◌, All, IsUtf8, ℕ, Bool, ◌||◌, ◌==◌, List, [], ◌∷◌, codes, flat_map, if◌then◌else◌}
use Rattle.std.specs.List.{list_any}
use Rattle.std.specs.Char.{is_ascii_alphanumeric}
use Rattle.percent_encoding.specs.Percent.{percent_encode_byte, percent_decode}

-- letters, digits and `-._~` (section 2.3)
abbrev pub is_unreserved : ℕ → Bool
is_unreserved b = is_ascii_alphanumeric b || list_any (λ c. b == c) (codes "-._~")

-- section 2.2
abbrev pub is_sub_delim : ℕ → Bool
is_sub_delim b = list_any (λ c. b == c) (codes "!$&'()*+,;=")

-- a byte that a fragment holds as it is (section 3.5, with `pchar` of 3.3)
abbrev pub is_fragment_byte : ℕ → Bool
is_fragment_byte b = is_unreserved b || is_sub_delim b || list_any (λ c. b == c) (codes ":@/?")

-- any other byte is `%` and two upper-case hexadecimal digits (section 2.1)
abbrev pub encoded_byte : ℕ → List ℕ
encoded_byte b = if is_fragment_byte b then b ∷ [] else percent_encode_byte b

-- a text as a fragment holds it (RFC 3986, 2.1 and 3.5)
abbrev pub encoded_text : List ℕ → List ℕ
encoded_text text = flat_map encoded_byte text

-- the text is what some text becomes, which is UTF-8 and is read back
pub record IsEncoded (text : List ℕ) : Type 0 where
  pub same : encoded_text (percent_decode text) ≡ text
  pub utf8 : IsUtf8 (percent_decode text)
  pub bytes : All (λ b. b < 256) (percent_decode text)
