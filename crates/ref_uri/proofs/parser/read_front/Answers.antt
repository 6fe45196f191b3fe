use Rattle.std.proofs.Common.{◌∙◌, sym}
use Rattle.ref_uri.proofs.FrontLemmas.{scheme_read_in, scheme_refused}
use Rattle.ref_uri.proofs.parser.read_front.Goals as goal

pub returns-then-not-is_ascii_alphabetic-clause-refused : goal.returns-then-not-is_ascii_alphabetic-clause-refused
returns-then-not-is_ascii_alphabetic-clause-refused c =
    scheme_refused c.args.text.now c.scheme_characters_len-read.result c.scheme_characters_len-read.ensures c.if-read-text.true c.if-text-read-eq58.true (sym c.is_ascii_alphabetic.ensures.value ∙ c.if-not-is_ascii_alphabetic.true)

pub returns-then-text-read-eq58-clause-scheme : goal.returns-then-text-read-eq58-clause-scheme
returns-then-text-read-eq58-clause-scheme c =
    (scheme_read_in c.args.text.now c.scheme_characters_len-read.result c.scheme_characters_len-read.ensures c.if-read-text.true c.if-text-read-eq58.true (sym c.is_ascii_alphabetic.ensures.value ∙ c.if-not-is_ascii_alphabetic.false)).0

pub returns-then-text-read-eq58-clause-tested : goal.returns-then-text-read-eq58-clause-tested
returns-then-text-read-eq58-clause-tested c =
    (scheme_read_in c.args.text.now c.scheme_characters_len-read.result c.scheme_characters_len-read.ensures c.if-read-text.true c.if-text-read-eq58.true (sym c.is_ascii_alphabetic.ensures.value ∙ c.if-not-is_ascii_alphabetic.false)).1
