use Rattle.ref_uri.proofs.NormalTwice.{parsed_is_normal}
use Rattle.ref_uri.proofs.laws.meanings_are_normal.Goals as goal

pub returns : goal.returns
returns c = record { law = parsed_is_normal }
