use Rattle.ref_uri.proofs.UniqueLemmas.{components-text_of}
use Rattle.ref_uri.proofs.laws.components_are_determined.Goals as goal

pub returns : goal.returns
returns c = record { law = components-text_of }
