use Rattle.std.specs.Prelude.{⊤}
use Rattle.ref_uri.specs.Components.{scheme, after_scheme, authority, after_authority, path, after_path, query, after_query, fragment, are_components}
use Rattle.ref_uri.specs.Reference.{is_uri_reference}
use Rattle.ref_uri.specs.DotSegments.{remove_dot_segments}
use Rattle.ref_uri.specs.Normal.{normal_encoded, normal_authority, normal_form}
use Rattle.ref_uri.specs.Resolution.{target_text}
use Rattle.ref_uri.specs.Targets.{uri_of, uri_against}

-- what a proof unfolds to compute this crate's definitions on a literal
unfoldable pub ref_uri_on_literals : ⊤
unfolding scheme after_scheme authority after_authority path after_path query after_query fragment are_components is_uri_reference remove_dot_segments normal_encoded normal_authority normal_form target_text uri_of uri_against
ref_uri_on_literals = tt
