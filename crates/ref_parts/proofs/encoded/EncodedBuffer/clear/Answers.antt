use Rattle.std.proofs.Common.{sym, ap, ◌∙◌, subst}
use Rattle.percent_encoding.specs.Percent.{percent_decode}
use Rattle.percent_encoding.proofs.PercentLemmas.{percent_decode-nil}
use Rattle.ref_parts.specs.Encoded.{IsEncoded}
use Rattle.ref_parts.proofs.EncodedLaws.{IsEncoded-nil}
use Rattle.ref_parts.proofs.encoded.EncodedBuffer.clear.Goals as goal

pub invariant_of-self : goal.invariant_of-self
invariant_of-self c = subst IsEncoded (sym c.clear.ensures.bytes) IsEncoded-nil

pub returns : goal.returns
returns c = record { empty = ap percent_decode c.clear.ensures.bytes ∙ percent_decode-nil }
