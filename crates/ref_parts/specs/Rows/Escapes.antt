-- Worked rows of escapes in keys, and of a whole pointer (RFC 6901, sections 3, 4 and 6).
use Rattle.std.specs.Prelude.{◌≡◌, [], ◌∷◌, codes, Some, None}
use Rattle.ref_paths.specs.Path.{Key}
use Rattle.ref_parts.specs.Pointer.{tilde, escape, unescape, first_escape, pointer_text}
use Rattle.ref_parts.specs.Encoded.{encoded_text}

pub record EscapeRows : Type 0 where
  pub nothing : escape [] ≡ []
  pub plain : escape (codes "abcdefghijklmnopq") ≡ codes "abcdefghijklmnopq"
  pub slash_after_eight : escape (codes "abcdefgh/") ≡ codes "abcdefgh~1"
  pub slash_in_front : escape (codes "/.abcdef") ≡ codes "~1.abcdef"
  pub slash_and_tilde : escape (codes "abcdefgh/ijklmnop~qrstuvwx")
      ≡ codes "abcdefgh~1ijklmnop~0qrstuvwx"
  pub tilde_after_fifteen : escape (codes "abcdefghijklmno~pqrstuvw")
      ≡ codes "abcdefghijklmno~0pqrstuvw"
  pub many_slashes : escape (codes "a/b/c/d/e/f/g/h/i/j") ≡ codes "a~1b~1c~1d~1e~1f~1g~1h~1i~1j"
  pub path_template : escape (codes "/v1/accounts/{account-key}")
      ≡ codes "~1v1~1accounts~1{account-key}"
  pub first_of_one : first_escape (codes "/.abcdef") ≡ Some 0
  pub first_of_two_bytes : first_escape (tilde ∷ 127 ∷ []) ≡ Some 0
  pub first_after_fifteen : first_escape (codes "aaaaaaaaaaaaaaa~") ≡ Some 15
  pub first_of_other_bytes : first_escape (255 ∷ 255 ∷ 255 ∷ 255 ∷ 255 ∷ 255 ∷ 255 ∷ 255 ∷ [])
      ≡ None
  pub both_read : unescape (codes "a~0~1b") ≡ codes "a~/b"
  pub digit_after : unescape (codes "~10") ≡ codes "/0"
  pub no_escape : unescape (codes "~2") ≡ codes "~2"
  pub tilde_at_the_end : unescape (codes "~0~1~") ≡ codes "~/~"
  pub many_tildes : unescape (codes "~~~~~") ≡ codes "~~~~~"
  pub whole_pointer : pointer_text (Key (codes "a/b%") ∷ Key [] ∷ Key (codes "~") ∷ [])
      ≡ codes "/a~1b%//~0"
  pub pointer_in_a_fragment : encoded_text
      (pointer_text (Key (codes "a/b%") ∷ Key [] ∷ Key (codes "~") ∷ []))
      ≡ codes "/a~1b%25//~0"
