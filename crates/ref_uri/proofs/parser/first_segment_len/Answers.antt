use Rattle.std.proofs.Common.{◌∙◌, sym, arith}
use Rattle.std.proofs.lemmas.List.Sums.{prefix_len-le-length}
use Rattle.ref_uri.specs.Characters.{is_scheme_character}
use Rattle.ref_uri.proofs.FrontLemmas.{segment_begun, segment_ends, segment_refused}
use Rattle.ref_uri.proofs.parser.first_segment_len.Goals as goal

pub encoded_len-len-requires-clause-read_within : goal.encoded_len-len-requires-clause-read_within
encoded_len-len-requires-clause-read_within c = omega (arith, c.requires.read_is, prefix_len-le-length is_scheme_character c.args.text.now)

pub encoded_len-len-requires-clause-read_encoded : goal.encoded_len-len-requires-clause-read_encoded
encoded_len-len-requires-clause-read_encoded c = segment_begun c.args.text.now c.args.read c.requires.read_is

pub returns-then-not-is_end-clause-refused : goal.returns-then-not-is_end-clause-refused
returns-then-not-is_end-clause-refused c =
    let run = c.encoded_len-len in
    segment_refused c.args.text.now c.args.read run.result c.requires.read_is c.requires.no_colon run.ensures.within run.ensures.encoded run.ensures.longest (sym c.is_end.ensures ∙ c.if-not-is_end.true)

pub returns-clause-no_scheme : goal.returns-clause-no_scheme
returns-clause-no_scheme c =
    let run = c.encoded_len-len in
    (segment_ends c.args.text.now run.result run.ensures.within run.ensures.encoded (sym c.is_end.ensures ∙ c.if-not-is_end.false)).0

pub returns-clause-tested : goal.returns-clause-tested
returns-clause-tested c =
    let run = c.encoded_len-len in
    (segment_ends c.args.text.now run.result run.ensures.within run.ensures.encoded (sym c.is_end.ensures ∙ c.if-not-is_end.false)).1

pub returns-clause-within : goal.returns-clause-within
returns-clause-within c =
    let run = c.encoded_len-len in
    (segment_ends c.args.text.now run.result run.ensures.within run.ensures.encoded (sym c.is_end.ensures ∙ c.if-not-is_end.false)).2

pub returns-clause-encoded : goal.returns-clause-encoded
returns-clause-encoded c =
    let run = c.encoded_len-len in
    (segment_ends c.args.text.now run.result run.ensures.within run.ensures.encoded (sym c.is_end.ensures ∙ c.if-not-is_end.false)).3
