-- Worked rows of the definitions that no public clause cites.
use Rattle.std.specs.Prelude.{◌≡◌, ℕ, true, false, List, [], ◌∷◌, codes, Some, None, String}
use Rattle.std.specs.Borrow.{Bor}
use Rattle.ref_uri.specs.declared.characters.Class.TheVariants as part
use Rattle.ref_uri.specs.declared.lengths.Lengths.{Lengths}
use Rattle.ref_uri.specs.declared.dots.Progress.TheVariants.{Front, Within, Dots}
use Rattle.ref_uri.specs.declared.dots.Segment.TheVariants as removal
use Rattle.ref_uri.specs.declared.dots.Segment.TheVariants.{Dot, DotDot}
use Rattle.ref_uri.specs.declared.target.PathOf.TheVariants.{Kept, OfBase, Removed, Merged}
use Rattle.ref_uri.specs.declared.written.Case.TheVariants.{AsItIs, Lower}
use Rattle.ref_uri.specs.declared.written.Form.TheVariants.{Given, Normal, NormalTarget}
use Rattle.std.specs.declared.alloc.AllocError.{AllocError}
use Rattle.std.specs.declared.alloc.Global.{Global}
use Rattle.ref_uri.specs.declared.error.UriError.TheVariants.{Parse}
use Rattle.ref_uri.specs.declared.error.UriFault.TheVariants as uri_fault
use Rattle.ref_uri.specs.declared.error.ParseError.TheVariants.{Syntax}
use Rattle.ref_uri.specs.Characters.{is_name_character}
use Rattle.ref_uri.specs.inner.Class.{is_first_segment_character, allows, ends}
use Rattle.ref_uri.specs.inner.Scans.{begins_with_triple, begins_encoded, ends_authority_at}
use Rattle.ref_uri.specs.inner.Faults.{IfInvalid}
use Rattle.ref_uri.specs.Components.{components}
use Rattle.ref_uri.specs.inner.Lengths.{the_lengths, lengths_of, IsParsed, IsParsedUri}
use Rattle.ref_uri.specs.inner.Removal.{segment_of, first_written, next_written, first_progress, next_progress, path_then, progress_then, path_after, progress_after, slash_of, end_of, ended_path}
use Rattle.ref_uri.specs.inner.Target.{given_path, normal_path_of, written_path, written_components, lengths_of_components, AreParts, LacksEncodedDot, LosesSameDots, IsTarget, components_of, after_directory, path_past, path_with_dots, target_with_dots}
use Rattle.ref_uri.specs.inner.Written.{the_front, the_rest, is_plain, in_case, written_text, written_scheme, written_authority}
use Rattle.ref_uri.specs.Bytes.{at_sign, colon, question_mark, slash}

pub record BodyRows : Type 0 where
  pub at_in_first_segment : is_first_segment_character at_sign ≡ true
  pub colon_not_in_first_segment : is_first_segment_character colon ≡ false
  pub triple_in_front : begins_with_triple (codes "%7Ea") ≡ true
  pub triple_after : begins_with_triple (codes "a%7E") ≡ false
  pub begins_with_letter : begins_encoded is_name_character (codes "a%") ≡ true
  pub begins_with_percent : begins_encoded is_name_character (codes "%%") ≡ false
  pub authority_ends_here : ends_authority_at (codes "a/b") 1 ≡ true
  pub authority_goes_on : ends_authority_at (codes "a/b") 0 ≡ false
  pub authority_ends_the_text : ends_authority_at (codes "a") 1 ≡ true
  pub class_of_first_segment : allows part.FirstSegment colon ≡ false
  pub class_of_query : allows part.Query question_mark ≡ true
  pub end_of_userinfo : ends part.Userinfo at_sign ≡ true
  pub end_of_path : ends part.Path slash ≡ false
  pub some_lengths : the_lengths (Some 1) None 2 None
      ≡ record { scheme = Some 1; authority = None; path = 2; query = None }
  pub no_lengths : the_lengths None None 0 None
      ≡ record { scheme = None; authority = None; path = 0; query = None }
  pub lengths_of_uri : lengths_of (codes "http://a/b?c#d")
      ≡ the_lengths (Some 4) (Some 1) 2 (Some 1)
  pub lengths_of_nothing : lengths_of [] ≡ the_lengths None None 0 None
  pub parsed_reference : IsParsed (codes "a") (the_lengths None None 1 None)
  pub no_reference : (lengths : Lengths) → IsParsed (codes "a b") lengths → ⊥
  pub other_lengths : IsParsed (codes "a") (the_lengths None None 2 None) → ⊥
  pub parsed_uri : IsParsedUri (codes "a:") (the_lengths (Some 1) None 0 None)
  pub no_uri : (lengths : Lengths) → IsParsedUri (codes "a") lengths → ⊥
  pub dot_segment : segment_of (codes ".") ≡ Dot
  pub named_segment : segment_of (codes "..g") ≡ removal.Name
  pub name_in_front : first_written removal.Name [] (codes "a") ≡ codes "a"
  pub dots_in_front : first_written DotDot [] (codes "..") ≡ []
  pub name_after : next_written removal.Name (codes "/a") (codes "b") ≡ codes "/a/b"
  pub dots_past : next_written DotDot (codes "/a/b") (codes "..") ≡ codes "/a"
  pub begun_by_a_name : first_progress removal.Name ≡ Within
  pub not_begun_by_a_dot : first_progress Dot ≡ Front
  pub on_by_a_dot : next_progress Dot ≡ Dots
  pub on_by_a_name : next_progress removal.Name ≡ Within
  pub path_begun : path_then Front [] (codes "a") ≡ codes "a"
  pub path_gone_on : path_then Within (codes "a") (codes "b") ≡ codes "a/b"
  pub still_in_front : progress_then Front (codes ".") ≡ Front
  pub dots_within : progress_then Within (codes "..") ≡ Dots
  pub first_taken_away : path_after Front [] (codes "a" ∷ codes ".." ∷ codes "b" ∷ []) ≡ codes "/b"
  pub no_more_segments : path_after Within (codes "/a") [] ≡ codes "/a"
  pub dot_at_the_end : progress_after Front (codes "a" ∷ codes "." ∷ []) ≡ Dots
  pub nothing_came : progress_after Front [] ≡ Front
  pub no_slash_in_front : slash_of Front ≡ []
  pub slash_after_a_segment : slash_of Within ≡ codes "/"
  pub slash_after_a_dot_segment : slash_of Dots ≡ codes "/"
  pub slash_at_the_end : end_of Dots ≡ codes "/"
  pub no_slash_at_the_end : end_of Within ≡ []
  pub ended_by_a_dot : ended_path Front [] (codes "a" ∷ codes "." ∷ []) ≡ codes "a/"
  pub ended_by_a_name : ended_path Front [] (codes "b" ∷ codes ".." ∷ codes "c" ∷ []) ≡ codes "/c"
  pub lower_case : in_case Lower 65 ≡ 97
  pub case_as_it_is : in_case AsItIs 65 ≡ 65
  pub as_given : written_text Given (codes "%7e") ≡ codes "%7e"
  pub in_normal_form : written_text Normal (codes "%7e") ≡ codes "~"
  pub scheme_as_given : written_scheme Given (codes "HTTP") ≡ codes "HTTP"
  pub scheme_in_normal_form : written_scheme Normal (codes "HTTP") ≡ codes "http"
  pub authority_as_given : written_authority Given (codes "A:") ≡ codes "A:"
  pub authority_in_normal_form : written_authority Normal (codes "A:") ≡ codes "a"
  pub kept_as_given : (path : Bor (List ℕ)) → path.now ≡ codes "/a/.."
      → given_path (Kept path) ≡ codes "/a/.."
  pub of_base_as_given : (path : Bor (List ℕ)) → path.now ≡ codes "/a/.."
      → given_path (OfBase path) ≡ codes "/a/.."
  pub removed_as_given : (path : Bor (List ℕ)) → path.now ≡ codes "/a/../b"
      → given_path (Removed path) ≡ codes "/b"
  pub merged_as_given : (directory path : Bor (List ℕ)) → directory.now ≡ codes "/a/b"
      → path.now ≡ codes "../c" → given_path (Merged directory path) ≡ codes "/a/c"
  pub kept_in_normal_form : (path : Bor (List ℕ)) → path.now ≡ codes "/a/../%7e"
      → normal_path_of (Kept path) ≡ codes "/a/../~"
  pub of_base_in_normal_form : (path : Bor (List ℕ)) → path.now ≡ codes "/a/%2e%2e/b"
      → normal_path_of (OfBase path) ≡ codes "/b"
  pub removed_in_normal_form : (path : Bor (List ℕ)) → path.now ≡ codes "/a/%2E/b"
      → normal_path_of (Removed path) ≡ codes "/a/b"
  pub merged_in_normal_form : (directory path : Bor (List ℕ)) → directory.now ≡ codes "/a/b"
      → path.now ≡ codes "%2e./c" → normal_path_of (Merged directory path) ≡ codes "/a/c"
  pub path_as_given : (path : Bor (List ℕ)) → path.now ≡ codes "/b/x/%2e%2e/../y"
      → written_path Given (Removed path) ≡ codes "/b/x/y"
  pub path_in_normal_form : (path : Bor (List ℕ)) → path.now ≡ codes "/b/x/%2e%2e/../y"
      → written_path Normal (Removed path) ≡ codes "/y"
  pub path_of_a_target : (path : Bor (List ℕ)) → path.now ≡ codes "/b/x/%2e%2e/../y"
      → written_path NormalTarget (Removed path) ≡ codes "/b/x/y"
  pub components_in_normal_form : (scheme authority path query : Bor (List ℕ))
      → scheme.now ≡ codes "HTTP" → authority.now ≡ codes "A:" → path.now ≡ codes "/%7e"
      → query.now ≡ codes "%2f"
      → written_components Normal
      (record {
        scheme = Some scheme;
        authority = Some authority;
        path = Kept path;
        query = Some query;
        fragment = None;
        front = None;
        rest = None;
      })
      ≡ components (codes "http://a/~?%2F")
  pub components_with_a_guard : (scheme path : Bor (List ℕ)) → scheme.now ≡ codes "A"
      → path.now ≡ codes "/..//b"
      → written_components Given
      (record {
        scheme = Some scheme;
        authority = None;
        path = Removed path;
        query = None;
        fragment = None;
        front = None;
        rest = None;
      })
      ≡ components (codes "A:/.//b")
  pub front_of_both : the_front (Some (codes "a")) (Some (codes "b")) ≡ codes "a://b"
  pub rest_of_both : the_rest (Some (codes "a")) (Some []) ≡ codes "?a#"
  pub text_without_triples : is_plain (codes "a/.#") ≡ true
  pub text_with_a_triple : is_plain (codes "a%2e") ≡ false
  pub lengths_of_some_components : lengths_of_components (components (codes "http://a/b?c#d"))
      ≡ the_lengths (Some 4) (Some 1) 2 (Some 1)
  pub lengths_of_no_components : lengths_of_components (components [])
      ≡ the_lengths None None 0 None
  pub part_is_a_path : (path : Bor (List ℕ)) → path.now ≡ codes "a:b" → AreParts (Kept path)
  pub part_is_no_path : (directory path : Bor (List ℕ)) → directory.now ≡ codes "/a"
      → path.now ≡ codes "b?" → AreParts (Merged directory path) → ⊥
  pub lacks_encoded_dot : LacksEncodedDot (codes "%2f")
  pub has_encoded_dot : LacksEncodedDot (codes "a%2Eb") → ⊥
  pub base_loses_same_dots : (path : Bor (List ℕ)) → LosesSameDots (OfBase path)
  pub merged_lose_same_dots : (directory path : Bor (List ℕ)) → directory.now ≡ codes "%2f"
      → path.now ≡ codes "." → LosesSameDots (Merged directory path)
  pub loses_more_dots : (path : Bor (List ℕ)) → path.now ≡ codes "/%2e"
      → LosesSameDots (Removed path) → ⊥
  pub keeps_its_dots : (path : Bor (List ℕ)) → LosesSameDots (Kept path) → ⊥
  pub some_target : (path : Bor (List ℕ)) → path.now ≡ codes "a:b"
      → IsTarget
      (record {
        scheme = None;
        authority = None;
        path = Kept path;
        query = None;
        fragment = None;
        front = None;
        rest = None;
      })
  pub no_target : (path query : Bor (List ℕ)) → query.now ≡ codes "#"
      → IsTarget
      (record {
        scheme = None;
        authority = None;
        path = Kept path;
        query = Some query;
        fragment = None;
        front = None;
        rest = None;
      })
      → ⊥
  pub some_parts : (scheme path fragment : Bor (List ℕ)) → scheme.now ≡ codes "a"
      → path.now ≡ codes "b" → fragment.now ≡ codes "c"
      → components_of
      (record {
        scheme = Some scheme;
        authority = None;
        path = path;
        query = None;
        fragment = Some fragment;
        front = path;
        rest = path;
      })
      ≡ components (codes "a:b#c")
  pub no_parts : (path : Bor (List ℕ)) → path.now ≡ codes ""
      → components_of
      (record {
        scheme = None;
        authority = None;
        path = path;
        query = None;
        fragment = None;
        front = path;
        rest = path;
      })
      ≡ components []
  pub after_a_directory : after_directory (Some (codes "/a")) (codes "b") ≡ codes "/a/b"
  pub after_no_directory : after_directory None (codes "b") ≡ codes "b"
  pub path_after_authority : path_past (components (codes "http://a")) (codes "b") ≡ codes "/b"
  pub path_after_path : path_past (components (codes "/x/y")) (codes "b") ≡ codes "/x/b"
  pub path_from_the_root : path_past (components (codes "/x/y")) (codes "/b") ≡ codes "/b"
  pub dots_of_the_base : path_with_dots (components (codes "a:/b/../c")) (components (codes "#d"))
      ≡ codes "/b/../c"
  pub dots_of_the_reference : path_with_dots (components (codes "a:/b/c"))
      (components (codes "//d/../e"))
      ≡ codes "/../e"
  pub dots_of_both : path_with_dots (components (codes "a:/b/./c")) (components (codes "../d"))
      ≡ codes "/b/./../d"
  pub target_keeps_dots : target_with_dots (components (codes "http://a/b/c?q"))
      (components (codes "../d"))
      ≡ components (codes "http://a/b/../d")
  pub target_of_a_fragment : target_with_dots (components (codes "http://a/./c?q"))
      (components (codes "#f"))
      ≡ components (codes "http://a/./c?q#f")
  pub if_memory : (e : AllocError) → IfInvalid (uri_fault.Memory e) (true ≡ false)
  pub if_invalid : (uri : String Global)
      → IfInvalid (uri_fault.Invalid (Parse uri true Syntax)) (true ≡ true)
