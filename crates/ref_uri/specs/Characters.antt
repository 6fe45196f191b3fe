-- Characters and triples (RFC 3986, 2).
use Rattle.std.specs.Prelude.{ℕ, Bool, true, false, ◌||◌, ◌&&◌, List, [], ◌∷◌, codes, ◌==◌, if◌then◌else◌}
use Rattle.std.specs.List.{list_all, list_any}
use Rattle.std.specs.Char.{is_ascii_alphanumeric, is_ascii_hexdigit}
use Rattle.ref_uri.specs.Bytes.{percent}

-- the character is one of these
abbrev pub is_one_of : List ℕ → ℕ → Bool
is_one_of these c = list_any (λ x. c == x) these

-- unreserved (2.3)
abbrev pub is_unreserved : ℕ → Bool
is_unreserved c = is_ascii_alphanumeric c || is_one_of (codes "-._~") c

-- sub-delims (2.2)
abbrev pub is_sub_delim : ℕ → Bool
is_sub_delim c = is_one_of (codes "!$&'()*+,;=") c

-- a scheme's characters after its first letter (3.1)
abbrev pub is_scheme_character : ℕ → Bool
is_scheme_character c = is_ascii_alphanumeric c || is_one_of (codes "+-.") c

-- what a registered name may hold, triples aside (3.2.2)
abbrev pub is_name_character : ℕ → Bool
is_name_character c = is_unreserved c || is_sub_delim c

-- what userinfo may hold, triples aside (3.2.1)
abbrev pub is_userinfo_character : ℕ → Bool
is_userinfo_character c = is_name_character c || is_one_of (codes ":") c

-- pchar, triples aside (3.3)
abbrev pub is_segment_character : ℕ → Bool
is_segment_character c = is_name_character c || is_one_of (codes ":@") c

-- the characters of a path (3.3)
abbrev pub is_path_character : ℕ → Bool
is_path_character c = is_segment_character c || is_one_of (codes "/") c

-- the characters of a query or a fragment (3.4, 3.5)
abbrev pub is_query_character : ℕ → Bool
is_query_character c = is_segment_character c || is_one_of (codes "/?") c

-- the text begins with two hex digits
abbrev pub begins_with_hex_digits : List ℕ → Bool
begins_with_hex_digits [] = false
begins_with_hex_digits (high ∷ []) = false
begins_with_hex_digits (high ∷ low ∷ rest) = is_ascii_hexdigit high && is_ascii_hexdigit low

-- each `%` is followed by two hex digits (2.1)
abbrev pub has_whole_triples : List ℕ → Bool
has_whole_triples [] = true
has_whole_triples (c ∷ rest) =
    (if c == percent then begins_with_hex_digits rest else true) && has_whole_triples rest

-- a text of characters that are allowed, hex digits among them, and of triples
abbrev pub is_encoded : (ℕ → Bool) → List ℕ → Bool
is_encoded allowed text = list_all (λ c. allowed c || (c == percent)) text && has_whole_triples text
