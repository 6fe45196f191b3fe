use Rattle.std.proofs.Common.{string_bytes, sym, subst}
use Rattle.std.specs.Str.{IsAscii}
use Rattle.std.proofs.lemmas.Str.{IsAscii-append}
use Rattle.std.proofs.lemmas.Result.{on_ok_weaker}
use Rattle.ref_uri.specs.Normal.{normal_text}
use Rattle.ref_uri.specs.declared.written.Form.TheVariants.{Normal}
use Rattle.ref_uri.proofs.WrittenLemmas.{written_ascii}
use Rattle.ref_uri.proofs.written.Form.push.Goals as goal

pub returns-in-Normal-clause-ascii : goal.returns-in-Normal-clause-ascii
returns-in-Normal-clause-ascii c =
    on_ok_weaker c.push_normal_text.result
    (λ text before. subst IsAscii (sym text) (IsAscii-append (string_bytes c.args.buffer.now) (normal_text c.args.text.now) before (written_ascii Normal c.args.text.now c.requires.triples c.requires.ascii)))
    c.push_normal_text.ensures
