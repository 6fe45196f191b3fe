use Rattle.ref_parts.proofs.PathLaws.{evaluate-pointer_text}
use Rattle.ref_parts.proofs.laws.pointer_text_leads_where_its_path_does.Goals as goal

pub returns : goal.returns
returns c = record { law = evaluate-pointer_text }
