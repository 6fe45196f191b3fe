use Rattle.std.proofs.Common.{ap, ◌∙◌}
use Rattle.ref_parts.specs.Pointer.{parse_index}
use Rattle.ref_parts.proofs.IndexLaws.{parse_index-decimal, parse_index_some}
use Rattle.ref_parts.proofs.laws.index_text_is_decimal.Goals as goal

pub returns : goal.returns
returns c = record { law = λ text i. (parse_index_some text i, λ h. ap parse_index h.0 ∙ parse_index-decimal i h.1) }
