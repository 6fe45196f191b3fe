use Rattle.ref_uri.proofs.NormalTwice.{normal_twice}
use Rattle.ref_uri.proofs.laws.normal_form_is_its_own.Goals as goal

pub returns : goal.returns
returns c = record { law = normal_twice }
