use Rattle.std.proofs.Common.{sym, ap, ◌∙◌, subst}
use Rattle.percent_encoding.specs.Percent.{percent_decode}
use Rattle.percent_encoding.proofs.PercentLemmas.{percent_decode-nil}
use Rattle.ref_parts.specs.Encoded.{IsEncoded}
use Rattle.ref_parts.proofs.EncodedLaws.{IsEncoded-nil}
use Rattle.ref_parts.proofs.encoded.EncodedBuffer.new.Goals as goal

pub invariant_of-result : goal.invariant_of-result
invariant_of-result c = subst IsEncoded (sym c.new-text.ensures.bytes) IsEncoded-nil

pub returns : goal.returns
returns c = record { empty = ap percent_decode c.new-text.ensures.bytes ∙ percent_decode-nil }
