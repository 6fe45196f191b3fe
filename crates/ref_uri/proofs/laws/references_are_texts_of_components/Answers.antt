use Rattle.ref_uri.proofs.LawLemmas.{to_components, from_components}
use Rattle.ref_uri.proofs.laws.references_are_texts_of_components.Goals as goal

pub returns : goal.returns
returns c = record { law = λ text. (to_components text, from_components text) }
