use Rattle.std.proofs.Common.{map, string_bytes, sym, subst}
use Rattle.std.specs.Char.{to_ascii_lowercase}
use Rattle.std.specs.Str.{IsAscii}
use Rattle.std.proofs.lemmas.Str.{IsAscii-append}
use Rattle.std.proofs.lemmas.Str.Ascii.{IsAscii-map, lowercase_ascii}
use Rattle.std.proofs.lemmas.Result.{on_ok_weaker}
use Rattle.ref_uri.proofs.written.Form.push_scheme.Goals as goal

pub returns-in-Normal-clause-ascii : goal.returns-in-Normal-clause-ascii
returns-in-Normal-clause-ascii c =
    on_ok_weaker c.push_lower.result
    (λ text before. subst IsAscii (sym text) (IsAscii-append (string_bytes c.args.buffer.now) (map to_ascii_lowercase c.args.scheme.now) before (IsAscii-map to_ascii_lowercase c.args.scheme.now lowercase_ascii c.requires)))
    c.push_lower.ensures
