use Rattle.std.specs.Prelude.{⊤}
use lib.Utf8.{encode}
use Rattle.std.specs.Fmt.{digits}
use Rattle.std.specs.Str.{is_utf8, chars}
use Rattle.percent_encoding.proofs.OnLiterals.{percent_encoding_on_literals}
use Rattle.ref_uri.proofs.OnLiterals.{ref_uri_on_literals}
use Rattle.ref_definitions.specs.Anchors.{anchor}
use Rattle.ref_definitions.specs.Pointers.{index_of}
use Rattle.ref_definitions.specs.Lookup.{lookup}
use Rattle.ref_definitions.specs.Recursive.{lookup_recursive}
use Rattle.ref_definitions.specs.Follow.{followed_steps}
use Rattle.ref_definitions.specs.Pending.{with_pending}

-- what a proof unfolds to compute this crate's definitions on a literal
unfoldable pub world_on_literals : ⊤
unfolding digits is_utf8 chars encode percent_encoding_on_literals ref_uri_on_literals anchor index_of lookup lookup_recursive followed_steps with_pending
world_on_literals = tt
