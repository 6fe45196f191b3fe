use Rattle.ref_uri.proofs.StructureLemmas.{text_of-components}
use Rattle.ref_uri.proofs.laws.components_make_their_text.Goals as goal

pub returns : goal.returns
returns c = record { law = text_of-components }
