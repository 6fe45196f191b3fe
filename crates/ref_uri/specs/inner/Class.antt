-- The characters that the parts of a reference may hold beside triples.
use Rattle.std.specs.Prelude.{ℕ, Bool, ◌||◌, ◌==◌}
use Rattle.ref_uri.specs.declared.characters.Class.{Class}
use Rattle.ref_uri.specs.declared.characters.Class.TheVariants.{FirstSegment, Userinfo, Name, Path, Query}
use Rattle.ref_uri.specs.Characters.{is_userinfo_character, is_name_character, is_path_character, is_query_character}
use Rattle.ref_uri.specs.Components.{ends_scheme, ends_path, ends_query}
use Rattle.ref_uri.specs.Bytes.{at_sign, colon}

-- the characters of a first segment with no colon, triples aside (segment-nz-nc, 3.3)
abbrev pub is_first_segment_character : ℕ → Bool
is_first_segment_character c = is_name_character c || (c == at_sign)

-- the characters of a class
abbrev pub allows : Class → ℕ → Bool
allows FirstSegment = is_first_segment_character
allows Userinfo = is_userinfo_character
allows Name = is_name_character
allows Path = is_path_character
allows Query = is_query_character

-- what ends the part
abbrev pub ends : Class → ℕ → Bool
ends FirstSegment c = ends_scheme c
ends Userinfo c = c == at_sign
ends Name c = c == colon
ends Path c = ends_path c
ends Query c = ends_query c
