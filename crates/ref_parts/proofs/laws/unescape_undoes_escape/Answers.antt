use Rattle.ref_parts.proofs.PointerLaws.{unescape-escape}
use Rattle.ref_parts.proofs.laws.unescape_undoes_escape.Goals as goal

pub returns : goal.returns
returns c = record { law = unescape-escape }
