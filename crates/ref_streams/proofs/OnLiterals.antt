use Rattle.std.specs.Prelude.{⊤}
use Rattle.ref_streams.specs.Lines.{lines, whole_lines}

-- what a proof unfolds to compute this crate's definitions on a literal
unfoldable pub ref_streams_on_literals : ⊤
unfolding lines whole_lines
ref_streams_on_literals = tt
