use Rattle.std.proofs.Common.{string_bytes, sym, subst}
use Rattle.std.specs.Str.{IsAscii}
use Rattle.std.proofs.lemmas.Str.{IsAscii-append}
use Rattle.std.proofs.lemmas.Result.{on_ok_weaker}
use Rattle.ref_uri.specs.Normal.{normal_authority}
use Rattle.ref_uri.proofs.AsciiLemmas.{authority_ascii, IsAscii-from_all_ascii}
use Rattle.ref_uri.proofs.NormalValid.{normal_is_authority}
use Rattle.ref_uri.proofs.written.Form.push_authority.Goals as goal

pub returns-in-Normal-clause-ascii : goal.returns-in-Normal-clause-ascii
returns-in-Normal-clause-ascii c =
    let normal = normal_authority c.args.authority.now in
    on_ok_weaker c.push_normal_authority.result
    (λ text before. subst IsAscii (sym text) (IsAscii-append (string_bytes c.args.buffer.now) normal before (IsAscii-from_all_ascii normal (authority_ascii normal (normal_is_authority c.args.authority.now c.requires.authority)))))
    c.push_normal_authority.ensures
