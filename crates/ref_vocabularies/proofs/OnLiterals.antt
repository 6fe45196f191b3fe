use Rattle.std.specs.Prelude.{⊤}
use Rattle.ref_definitions.proofs.OnLiterals.{world_on_literals}
use Rattle.ref_vocabularies.specs.Vocabularies.{find_in, find_vocabularies}

-- what a proof unfolds to compute this crate's definitions on a literal
unfoldable pub vocabularies_on_literals : ⊤
unfolding world_on_literals find_in find_vocabularies
vocabularies_on_literals = tt
