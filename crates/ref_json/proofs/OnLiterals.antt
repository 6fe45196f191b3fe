use Rattle.std.specs.Prelude.{⊤}
use Rattle.std.specs.Str.{is_utf8, chars}
use lib.Utf8.{encode}
use Rattle.serde_json.proofs.OnLiterals.{serde_json_on_literals}

-- what a proof unfolds to compute this crate's definitions on a literal
unfoldable pub ref_json_on_literals : ⊤
unfolding is_utf8 chars encode serde_json_on_literals
ref_json_on_literals = tt
