-- Worked rows of pointer text: what the definitions return at literals. Each row is proved by computation.
pub mod Entries
pub mod Escapes
pub mod Maps
pub mod Lists
pub mod Tables
use Rattle.std.specs.Prelude.{◌≡◌, true, false, [], ◌∷◌, codes, Some, None}
use Rattle.serde_json.specs.Data.{Data, null, boolean, number, unsigned, string, array, object, no_items, item, no_members, member}
use Rattle.ref_paths.specs.Path.{Key, Index, value_at}
use Rattle.ref_paths.specs.Rows.{example, foo}
use Rattle.ref_parts.specs.Pointer.{tilde, slash, digit_zero, digit_one, is_escaped, escaped_byte, escape, part_text, pointer_text, first_escape, replace_escape, unescape, is_index_text, parse_index, tokens, step, value_along, evaluate}
use Rattle.ref_parts.specs.Encoded.{is_unreserved, is_sub_delim, is_fragment_byte, encoded_byte, encoded_text, IsEncoded}

-- `{"":{"a/b":[5]}}`
abbrev pub document : Data
document =
    object
    (member []
    (object
    (member (codes "a/b")
    (array (item (number (unsigned 5)) no_items)) no_members)) no_members)

pub record PointerRows : Type 0 where
  pub escape_tilde : escape (codes "abcdefg~") ≡ codes "abcdefg~0"
  pub escape_both : escape (codes "~/~") ≡ codes "~0~1~0"
  pub escape_slash : escape (codes "a/b") ≡ codes "a~1b"
  pub unescape_tilde_slash : unescape (codes "~~1") ≡ codes "~/"
  pub unescape_tilde_tilde : unescape (codes "~~0") ≡ codes "~~"
  pub unescape_in_order : unescape (codes "~01") ≡ codes "~1"
  pub unescape_lone : unescape (codes "~") ≡ codes "~"
  pub first_escape_first : first_escape (codes "/.abcdef~") ≡ Some 0
  pub first_escape_last : first_escape (codes ".abcdef/") ≡ Some 7
  pub first_escape_none : first_escape (codes "abcdefgh") ≡ None
  pub index_zero : parse_index (codes "0") ≡ Some 0
  pub index_leading_zero : parse_index (codes "01") ≡ None
  pub index_plus : parse_index (codes "+1") ≡ None
  pub index_empty : parse_index [] ≡ None
  pub index_greatest : parse_index (codes "18446744073709551615") ≡ Some 18446744073709551615
  pub index_too_large : parse_index (codes "18446744073709551616") ≡ None
  pub evaluate_whole : evaluate document [] ≡ Some document
  pub evaluate_path : evaluate document (codes "//a~1b/0") ≡ Some (number (unsigned 5))
  pub evaluate_no_slash : evaluate document (codes "a") ≡ None
  pub text_of_path : pointer_text (Key [] ∷ Key (codes "a/b") ∷ Index 0 ∷ []) ≡ codes "//a~1b/0"
  pub value_at_path : value_at document (Key [] ∷ Key (codes "a/b") ∷ Index 0 ∷ [])
      ≡ Some (number (unsigned 5))

-- the parts that those are made of
pub record TokenRows : Type 0 where
  pub tilde_byte : codes "~" ≡ tilde ∷ []
  pub tilde_escaped : escaped_byte tilde ≡ codes "~0"
  pub slash_byte : codes "/" ≡ slash ∷ []
  pub slash_escaped : escaped_byte slash ≡ codes "~1"
  pub letter_escaped : escaped_byte 97 ≡ codes "a"
  pub tilde_is_escaped : is_escaped tilde ≡ true
  pub slash_is_escaped : is_escaped slash ≡ true
  pub letter_is_not : is_escaped 97 ≡ false
  pub text_of_key : part_text (Key (codes "m~n")) ≡ codes "m~0n"
  pub text_of_index : part_text (Index 10) ≡ codes "10"
  pub text_of_root : pointer_text [] ≡ []
  pub slashes_first : replace_escape digit_one slash (codes "~01~1") ≡ codes "~01/"
  pub tildes_next : replace_escape digit_zero tilde (codes "~01/") ≡ codes "~1/"
  pub digits : is_index_text (codes "10") ≡ true
  pub zero_before_digit : is_index_text (codes "00") ≡ false
  pub exponent : is_index_text (codes "1e0") ≡ false
  pub two_tokens : tokens (codes "foo/0") ≡ codes "foo" ∷ codes "0" ∷ []
  pub empty_token : tokens [] ≡ [] ∷ []
  pub empty_tokens : tokens (codes "/") ≡ [] ∷ [] ∷ []

-- section 5's pointers into its document, and steps that find no value (section 4)
pub record ExampleRows : Type 0 where
  pub whole : evaluate example [] ≡ Some example
  pub array_there : evaluate example (codes "/foo") ≡ Some foo
  pub array_item : evaluate example (codes "/foo/0") ≡ Some (string (codes "bar"))
  pub empty_key : evaluate example (codes "/") ≡ Some (number (unsigned 0))
  pub slash_in_key : evaluate example (codes "/a~1b") ≡ Some (number (unsigned 1))
  pub percent : evaluate example (codes "/c%d") ≡ Some (number (unsigned 2))
  pub caret : evaluate example (codes "/e^f") ≡ Some (number (unsigned 3))
  pub bar : evaluate example (codes "/g|h") ≡ Some (number (unsigned 4))
  pub backslash : evaluate example (slash ∷ 105 ∷ 92 ∷ 106 ∷ []) ≡ Some (number (unsigned 5))
  pub quote : evaluate example (slash ∷ 107 ∷ 34 ∷ 108 ∷ []) ≡ Some (number (unsigned 6))
  pub space : evaluate example (codes "/ ") ≡ Some (number (unsigned 7))
  pub tilde_in_key : evaluate example (codes "/m~0n") ≡ Some (number (unsigned 8))
  pub past_the_end : evaluate example (codes "/foo/2") ≡ None
  pub no_such_key : evaluate example (codes "/baz") ≡ None
  pub along_none : value_along example [] ≡ Some example
  pub along_two : value_along example (codes "foo" ∷ codes "1" ∷ []) ≡ Some (string (codes "baz"))
  pub along_escaped : value_along example (codes "m~0n" ∷ []) ≡ Some (number (unsigned 8))
  pub step_by_key : step example (codes "m~n") ≡ Some (number (unsigned 8))
  pub step_by_index : step foo (codes "1") ≡ Some (string (codes "baz"))
  pub step_by_bad_index : step foo (codes "01") ≡ None
  pub step_into_scalar : step (string (codes "bar")) (codes "0") ≡ None
  pub step_into_null : step null [] ≡ None
  pub step_into_boolean : step (boolean true) (codes "0") ≡ None
  pub step_into_number : step (number (unsigned 5)) (codes "0") ≡ None

-- section 6's fragments of those pointers, and the bytes that a fragment holds (RFC 3986, sections 2.1 to 2.3 and 3.5)
pub record FragmentRows : Type 0 where
  pub hyphen : is_unreserved 45 ≡ true
  pub unreserved_tilde : is_unreserved tilde ≡ true
  pub slash_is_reserved : is_unreserved slash ≡ false
  pub equals : is_sub_delim 61 ≡ true
  pub colon_is_gen_delim : is_sub_delim 58 ≡ false
  pub colon : is_fragment_byte 58 ≡ true
  pub question : is_fragment_byte 63 ≡ true
  pub hash : is_fragment_byte 35 ≡ false
  pub bracket : is_fragment_byte 91 ≡ false
  pub slash_stays : encoded_byte slash ≡ codes "/"
  pub percent_byte : encoded_byte 37 ≡ codes "%25"
  pub two_digits : encoded_byte 10 ≡ codes "%0A"
  pub fragment_percent : encoded_text (codes "/c%d") ≡ codes "/c%25d"
  pub fragment_caret : encoded_text (codes "/e^f") ≡ codes "/e%5Ef"
  pub fragment_bar : encoded_text (codes "/g|h") ≡ codes "/g%7Ch"
  pub fragment_backslash : encoded_text (slash ∷ 105 ∷ 92 ∷ 106 ∷ []) ≡ codes "/i%5Cj"
  pub fragment_quote : encoded_text (slash ∷ 107 ∷ 34 ∷ 108 ∷ []) ≡ codes "/k%22l"
  pub fragment_space : encoded_text (codes "/ ") ≡ codes "/%20"
  pub fragment_tilde : encoded_text (codes "/m~0n") ≡ codes "/m~0n"
  pub fragment_slash : encoded_text (codes "/a~1b") ≡ codes "/a~1b"
  pub read_back : IsEncoded (codes "%25")
  pub letter_encoded : IsEncoded (codes "%61") → ⊥
  pub lower_case : IsEncoded (codes "%5e") → ⊥
