use Rattle.std.specs.Prelude.{⊤}
use Rattle.std.specs.Fmt.{digits}
use Rattle.percent_encoding.proofs.OnLiterals.{percent_encoding_on_literals}

-- what a proof unfolds to compute this crate's definitions on a literal
unfoldable pub ref_parts_on_literals : ⊤
unfolding digits percent_encoding_on_literals
ref_parts_on_literals = tt
