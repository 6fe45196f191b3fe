-- What a proof unfolds to compute the definitions on literals.
use Rattle.std.specs.Prelude.{⊤}
use Rattle.toml.proofs.OnLiterals.{toml_on_literals}

unfoldable pub ref_configuration_on_literals : ⊤
unfolding toml_on_literals
ref_configuration_on_literals = tt
