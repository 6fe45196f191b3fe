-- Worked rows of URIs: what the definitions return at literals, whole texts of the standard and the steps that lead to them.
-- Each row is proved by computation. Sections are of RFC 3986.
pub mod Errors
use Rattle.std.specs.Prelude.{◌≡◌, true, false, [], ◌∷◌, codes, Some, None, Ok, Err}
use Rattle.std.specs.Char.{to_ascii_lowercase}
use Rattle.ref_uri.specs.Characters.{is_unreserved, is_sub_delim, is_scheme_character, is_name_character, is_userinfo_character, is_segment_character, is_path_character, is_query_character, begins_with_hex_digits, has_whole_triples, is_encoded}
use Rattle.ref_uri.specs.Authority.{part_before, part_after, userinfo, host_and_port, host_len, host, port_part, is_address_character, is_address, is_version_and_address, is_future_address, is_address_and_bracket, is_bracketed, is_host, is_port_part, is_host_and_port, is_authority}
use Rattle.ref_uri.specs.Components.{framed_component, text_of, ends_scheme, ends_authority, ends_path, ends_query, text_after, after_scheme, begins_with_slashes, authority_in_front, after_authority, after_path, query_in_front, after_query, fragment_in_front, components, is_scheme, is_path, is_query, if_there, is_path_after, are_components}
use Rattle.ref_uri.specs.Reference.{is_uri, IsTextOfComponents, with_fragment}
use Rattle.ref_uri.specs.DotSegments.{segments, after_slashes, joined_segments, is_dot, is_dot_dot, is_dot_segment, kept_after, first_after, remaining_segments, ends_in_dots, without_dots}
use Rattle.ref_uri.specs.Normal.{hex_value, normal_triple, normal_encoded, normal_text, normal_host, normal_port_part, normal_authority, normal_path, normal_components}
use Rattle.ref_uri.specs.Resolution.{target_path, target_components, with_guard, resolved_components}
use Rattle.ref_uri.specs.Targets.{parse_refusal, uri_of, uri_against, uri_part, fragment_part}
use Rattle.ref_uri.specs.Bytes.{slash, colon, at_sign, question_mark, hash, dot}

-- characters of the parts of a reference (2.2, 2.3, 3.1 to 3.5)
pub record CharacterRows : Type 0 where
  pub tilde_unreserved : is_unreserved 126 ≡ true
  pub slash_reserved : is_unreserved slash ≡ false
  pub bang : is_sub_delim 33 ≡ true
  pub colon_is_gen_delim : is_sub_delim colon ≡ false
  pub plus_in_scheme : is_scheme_character 43 ≡ true
  pub tilde_not_in_scheme : is_scheme_character 126 ≡ false
  pub equals_in_name : is_name_character 61 ≡ true
  pub colon_not_in_name : is_name_character colon ≡ false
  pub colon_in_userinfo : is_userinfo_character colon ≡ true
  pub at_not_in_userinfo : is_userinfo_character at_sign ≡ false
  pub at_in_segment : is_segment_character at_sign ≡ true
  pub slash_not_in_segment : is_segment_character slash ≡ false
  pub slash_in_path : is_path_character slash ≡ true
  pub question_not_in_path : is_path_character question_mark ≡ false
  pub question_in_query : is_query_character question_mark ≡ true
  pub hash_not_in_query : is_query_character hash ≡ false
  pub two_digits : begins_with_hex_digits (codes "aF/") ≡ true
  pub one_digit : begins_with_hex_digits (codes "a") ≡ false
  pub no_digit : begins_with_hex_digits (codes "4g") ≡ false
  pub whole_triples : has_whole_triples (codes "a%2f%25") ≡ true
  pub half_triple : has_whole_triples (codes "a%2") ≡ false
  pub triple_of_percent : has_whole_triples (codes "%%41") ≡ false
  pub encoded_name : is_encoded is_name_character (codes "a%7E!") ≡ true
  pub encoded_colon : is_encoded is_name_character (codes "a:") ≡ false

-- authorities and their parts (3.2)
pub record AuthorityRows : Type 0 where
  pub before_at : part_before at_sign (codes "u:p@h") ≡ Some (codes "u:p")
  pub nothing_before : part_before at_sign (codes "h") ≡ None
  pub after_at : part_after at_sign (codes "u:p@h") ≡ codes "h"
  pub all_after : part_after at_sign (codes "h") ≡ codes "h"
  pub user : userinfo (codes "u:p@[::1]:80") ≡ Some (codes "u:p")
  pub empty_user : userinfo (codes "@h") ≡ Some []
  pub no_user : userinfo (codes "h:80") ≡ None
  pub after_user : host_and_port (codes "u:p@[::1]:80") ≡ codes "[::1]:80"
  pub without_user : host_and_port (codes "example.com:8042") ≡ codes "example.com:8042"
  pub through_bracket : host_len (codes "[::1]:80") ≡ 5
  pub up_to_colon : host_len (codes "example.com:8042") ≡ 11
  pub bracketed_host : host (codes "u@[::1]:80") ≡ codes "[::1]"
  pub named_host : host (codes "example.com:8042") ≡ codes "example.com"
  pub port : port_part (codes "u@[::1]:80") ≡ codes ":80"
  pub empty_port : port_part (codes "h:") ≡ codes ":"
  pub no_port : port_part (codes "h") ≡ []
  pub colon_in_address : is_address_character colon ≡ true
  pub letter_g_in_address : is_address_character 103 ≡ false
  pub address : is_address (codes "2001:db8::7") ≡ true
  pub empty_address : is_address [] ≡ false
  pub version : is_version_and_address (codes "1.x:") ≡ true
  pub no_version : is_version_and_address (codes "g.x") ≡ false
  pub nothing_after_version : is_version_and_address (codes "1.") ≡ false
  pub future_address : is_future_address (codes "v1.x") ≡ true
  pub future_upper_case : is_future_address (codes "V1.x") ≡ true
  pub future_without_v : is_future_address (codes "1.x") ≡ false
  pub address_and_bracket : is_address_and_bracket (codes "::1]") ≡ true
  pub address_alone : is_address_and_bracket (codes "::1") ≡ false
  pub in_brackets : is_bracketed (codes "[::1]") ≡ true
  pub half_bracket : is_bracketed (codes "::1]") ≡ false
  pub empty_host : is_host [] ≡ true
  pub encoded_host : is_host (codes "a%41") ≡ true
  pub open_bracket : is_host (codes "[::1") ≡ false
  pub port_absent : is_port_part [] ≡ true
  pub port_empty : is_port_part (codes ":") ≡ true
  pub port_of_letters : is_port_part (codes ":8a") ≡ false
  pub port_without_colon : is_port_part (codes "80") ≡ false
  pub address_and_port : is_host_and_port (codes "[::1]:80") ≡ true
  pub letters_for_port : is_host_and_port (codes "a:b") ≡ false
  pub whole : is_authority (codes "u:p@[2001:db8::7]:80") ≡ true
  pub empty : is_authority [] ≡ true
  pub two_ats : is_authority (codes "a@b@c") ≡ false

-- where components begin and end, and what they may hold (3 and Appendix B)
pub record ComponentRows : Type 0 where
  pub with_its_mark : framed_component (codes "//") (Some (codes "a")) [] ≡ codes "//a"
  pub empty_with_its_mark : framed_component (codes "?") (Some []) [] ≡ codes "?"
  pub absent : framed_component (codes "?") None [] ≡ []
  pub whole_text : text_of
      (record {
        scheme = Some (codes "foo");
        authority = Some (codes "a");
        path = codes "/b";
        query = Some (codes "c");
        fragment = Some (codes "d");
      })
      ≡ codes "foo://a/b?c#d"
  pub path_alone : text_of
      (record {
        scheme = None;
        authority = None;
        path = codes "b";
        query = None;
        fragment = None;
      })
      ≡ codes "b"
  pub colon_ends_scheme : ends_scheme colon ≡ true
  pub dot_in_scheme : ends_scheme dot ≡ false
  pub slash_ends_authority : ends_authority slash ≡ true
  pub colon_in_authority : ends_authority colon ≡ false
  pub question_ends_path : ends_path question_mark ≡ true
  pub slash_in_path : ends_path slash ≡ false
  pub hash_ends_query : ends_query hash ≡ true
  pub question_in_query : ends_query question_mark ≡ false
  pub after_three : text_after (Some 3) 1 (codes "foo:a") ≡ codes "a"
  pub after_none : text_after None 1 (codes "foo") ≡ codes "foo"
  pub past_scheme : after_scheme (codes "foo://a/b?c#d") ≡ codes "//a/b?c#d"
  pub after_no_scheme : after_scheme (codes "/a") ≡ codes "/a"
  pub two_slashes : begins_with_slashes (codes "//a") ≡ true
  pub one_slash : begins_with_slashes (codes "/a") ≡ false
  pub authority_there : authority_in_front (codes "//a/b") ≡ Some (codes "a")
  pub authority_absent : authority_in_front (codes "/a") ≡ None
  pub past_authority : after_authority (codes "foo://a/b?c#d") ≡ codes "/b?c#d"
  pub after_no_authority : after_authority (codes "a/b") ≡ codes "a/b"
  pub past_path : after_path (codes "foo://a/b?c#d") ≡ codes "?c#d"
  pub nothing_after_path : after_path (codes "a") ≡ []
  pub query_there : query_in_front (codes "?c#d") ≡ Some (codes "c")
  pub query_absent : query_in_front (codes "#d") ≡ None
  pub past_query : after_query (codes "foo://a/b?c#d") ≡ codes "#d"
  pub after_no_query : after_query (codes "a#d") ≡ codes "#d"
  pub fragment_there : fragment_in_front (codes "#d") ≡ Some (codes "d")
  pub fragment_absent : fragment_in_front [] ≡ None
  pub scheme_of_digits_and_plus : is_scheme (codes "a+1") ≡ true
  pub scheme_of_digit : is_scheme (codes "1a") ≡ false
  pub path_with_colon : is_path (codes "/a:b/%7E") ≡ true
  pub path_with_question : is_path (codes "/a?b") ≡ false
  pub query_with_slash : is_query (codes "a?/b") ≡ true
  pub query_with_hash : is_query (codes "a#b") ≡ false
  pub absent_is_as_it_must : if_there is_scheme None ≡ true
  pub wrong_where_there : if_there is_scheme (Some (codes "1a")) ≡ false
  pub empty_after_authority : is_path_after None (Some (codes "a")) [] ≡ true
  pub rootless_after_authority : is_path_after None (Some (codes "a")) (codes "b") ≡ false
  pub colon_after_scheme : is_path_after (Some (codes "s")) None (codes "a:b") ≡ true
  pub slashes_after_scheme : is_path_after (Some (codes "s")) None (codes "//a") ≡ false
  pub colon_in_first_segment : is_path_after None None (codes "a:b") ≡ false
  pub colon_in_second_segment : is_path_after None None (codes "./a:b") ≡ true
  pub as_they_must : are_components (components (codes "http://a/b")) ≡ true
  pub path_as_authority : are_components
      (record {
        scheme = None;
        authority = None;
        path = codes "//a";
        query = None;
        fragment = None;
      })
      ≡ false
  pub with_scheme : is_uri (codes "http://a") ≡ true
  pub without_fragment : with_fragment (codes "a?q#b") None ≡ codes "a?q"
  pub another_fragment : with_fragment (codes "a?q#b") (Some (codes "c")) ≡ codes "a?q#c"
  pub empty_fragment : with_fragment (codes "a") (Some []) ≡ codes "a#"
  pub text_of_some : IsTextOfComponents (codes "//a")
  pub text_of_path : IsTextOfComponents []

-- dot segments, one by one (5.2.4)
pub record SegmentRows : Type 0 where
  pub between_slashes : segments (codes "/a/b") ≡ [] ∷ codes "a" ∷ codes "b" ∷ []
  pub of_nothing : segments [] ≡ [] ∷ []
  pub with_slashes : after_slashes (codes "a" ∷ codes "b" ∷ []) ≡ codes "/a/b"
  pub with_no_slash : after_slashes [] ≡ []
  pub absolute : joined_segments ([] ∷ codes "a" ∷ []) ≡ codes "/a"
  pub relative : joined_segments (codes "a" ∷ codes "b" ∷ []) ≡ codes "a/b"
  pub dot : is_dot (codes ".") ≡ true
  pub two_dots : is_dot (codes "..") ≡ false
  pub dot_dot : is_dot_dot (codes "..") ≡ true
  pub dots_and_letter : is_dot_dot (codes "..g") ≡ false
  pub dot_segment : is_dot_segment (codes ".") ≡ true
  pub letter_and_dot : is_dot_segment (codes "g.") ≡ false
  pub one_taken_away : kept_after (codes "b" ∷ codes "a" ∷ []) (codes "..") ≡ codes "a" ∷ []
  pub none_taken_away : kept_after (codes "a" ∷ []) (codes ".") ≡ codes "a" ∷ []
  pub one_more : kept_after (codes "a" ∷ []) (codes "b") ≡ codes "b" ∷ codes "a" ∷ []
  pub first_taken_away : first_after (codes "b") [] (codes "..") ≡ []
  pub first_stays : first_after (codes "b") (codes "c" ∷ []) (codes "..") ≡ codes "b"
  pub from_the_left : remaining_segments (codes "b") [] (codes "c" ∷ codes ".." ∷ codes "d" ∷ [])
      ≡ codes "b" ∷ codes "d" ∷ []
  pub past_the_root : remaining_segments [] [] (codes ".." ∷ codes "g" ∷ []) ≡ [] ∷ codes "g" ∷ []
  pub dots_at_the_end : ends_in_dots (codes "a" ∷ codes ".." ∷ []) ≡ true
  pub dots_in_front : ends_in_dots (codes ".." ∷ codes "a" ∷ []) ≡ false
  pub slash_at_the_end : without_dots ([] ∷ codes "a" ∷ codes ".." ∷ []) ≡ [] ∷ [] ∷ []
  pub no_segments : without_dots [] ≡ []

-- normal forms of parts (6.2.2 and 3.2.3)
pub record NormalRows : Type 0 where
  pub upper_digit : hex_value 65 ≡ 10
  pub lower_digit : hex_value 102 ≡ 15
  pub decimal_digit : hex_value 57 ≡ 9
  pub unreserved_triple : normal_triple (λ c. c) 55 101 ≡ codes "~"
  pub reserved_triple : normal_triple (λ c. c) 50 102 ≡ codes "%2F"
  pub no_text : normal_encoded (λ c. c) [] ≡ []
  pub triple_alone : normal_encoded (λ c. c) (codes "%7e") ≡ codes "~"
  pub letter_in_case : normal_encoded to_ascii_lowercase (codes "A") ≡ codes "a"
  pub triple_between : normal_encoded (λ c. c) (codes "a%41b") ≡ codes "aAb"
  pub decoded_in_case : normal_encoded to_ascii_lowercase (codes "Ex%41") ≡ codes "exa"
  pub reserved_in_case : normal_encoded to_ascii_lowercase (codes "%2f") ≡ codes "%2F"
  pub decoded_text : normal_text (codes "%7efoo%2f") ≡ codes "~foo%2F"
  pub letters_stay : normal_text (codes "A%41") ≡ codes "AA"
  pub lower_host : normal_host (codes "Ex%41mple.com") ≡ codes "example.com"
  pub lower_address : normal_host (codes "[2001:DB8::7]") ≡ codes "[2001:db8::7]"
  pub empty_port : normal_port_part (codes ":") ≡ []
  pub port_stays : normal_port_part (codes ":80") ≡ codes ":80"
  pub authority_parts : normal_authority (codes "U%41@Ex:") ≡ codes "UA@ex"
  pub authority_stays : normal_authority (codes "a:80") ≡ codes "a:80"
  pub dots_without_scheme : normal_path None None (codes "a/../%7e") ≡ codes "a/../~"
  pub dots_with_scheme : normal_path (Some (codes "a")) None (codes "/.//c") ≡ codes "/.//c"
  pub by_components : normal_components (components (codes "HTTP://A:/%7e?%7e#%2f"))
      ≡ components (codes "http://a/~?~#%2F")
  pub empty_components : normal_components (components []) ≡ components []

-- the five cases of resolution (5.2.2 and 5.2.3)
pub record ResolutionRows : Type 0 where
  pub relative_path : target_path (components (codes "http://a/b/c")) (codes "../g") ≡ codes "/g"
  pub absolute_path : target_path (components (codes "http://a/b/c")) (codes "/./g") ≡ codes "/g"
  pub no_path : target_components (components (codes "http://a/b?q")) (components (codes "#s"))
      ≡ components (codes "http://a/b?q#s")
  pub some_path : target_components (components (codes "http://a/b?q")) (components (codes "g"))
      ≡ components (codes "http://a/g")
  pub authority : target_components (components (codes "http://a/b?q"))
      (components (codes "//g/./h"))
      ≡ components (codes "http://g/h")
  pub no_authority : target_components (components (codes "http://a/b?q")) (components (codes "?y"))
      ≡ components (codes "http://a/b?y")
  pub scheme : target_components (components (codes "http://a/b?q")) (components (codes "s:./g"))
      ≡ components (codes "s:g")
  pub no_scheme : target_components (components (codes "http://a/b?q")) (components (codes "//g"))
      ≡ components (codes "http://g")
  pub guard_put :
      (with_guard
      (record {
        scheme = Some (codes "a");
        authority = None;
        path = codes "//c";
        query = None;
        fragment = None;
      })).path
      ≡ codes "/.//c"
  pub no_guard : with_guard (components (codes "http://a//b")) ≡ components (codes "http://a//b")
  pub whole_target : resolved_components (components (codes "http://a/b")) (components (codes "c"))
      ≡ components (codes "http://a/c")
  pub guarded_target : resolved_components (components (codes "a:/b")) (components (codes "/.//c"))
      ≡ components (codes "a:/.//c")

-- what texts mean, alone and against a base
pub record MeaningRows : Type 0 where
  pub up : uri_against (codes "http://a/b/c/d;p?q") (codes "../g") ≡ Ok (codes "http://a/b/g")
  pub past_the_root : uri_against (codes "http://a/b/c/d;p?q") (codes "../../../g")
      ≡ Ok (codes "http://a/g")
  pub empty_text : uri_against (codes "http://a/b/c/d;p?q") [] ≡ Ok (codes "http://a/b/c/d;p?q")
  pub query : uri_against (codes "http://a/b/c/d;p?q") (codes "?y")
      ≡ Ok (codes "http://a/b/c/d;p?y")
  pub fragment : uri_against (codes "http://a/b/c/d;p?q") (codes "#s")
      ≡ Ok (codes "http://a/b/c/d;p?q#s")
  pub authority : uri_against (codes "http://a/b/c/d;p?q") (codes "//g") ≡ Ok (codes "http://g")
  pub scheme : uri_against (codes "http://a/b/c/d;p?q") (codes "http:g") ≡ Ok (codes "http:g")
  pub letters_triples_dots : uri_of (codes "HTTP://Ex%41mple.com/%7efoo/./bar/../x%2f")
      ≡ Ok (codes "http://example.com/~foo/x%2F")
  pub empty_port : uri_of (codes "http://a:/") ≡ Ok (codes "http://a/")
  pub port_stays : uri_of (codes "http://a:80") ≡ Ok (codes "http://a:80")
  pub scheme_of_digit : uri_of (codes "1a:b") ≡ Err (parse_refusal (codes "1a:b"))
  pub lone_percent : uri_of (codes "%4") ≡ Err (parse_refusal (codes "%4"))
  pub before_the_fragment : uri_part (codes "s#/k") ≡ codes "s"
  pub before_the_last_hash : uri_part (codes "a#b#c") ≡ codes "a#b"
  pub without_fragment : uri_part (codes "s") ≡ codes "s"
  pub no_fragment : fragment_part (codes "s") ≡ []
