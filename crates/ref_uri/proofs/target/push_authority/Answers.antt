use Rattle.std.proofs.Common.{◌≡◌, true, string_bytes, codes, sym, subst, rules}
use Rattle.std.specs.Str.{IsAscii}
use Rattle.std.proofs.lemmas.Str.{IsAscii-append}
use Rattle.ref_uri.specs.Authority.{is_authority}
use Rattle.ref_uri.proofs.AsciiLemmas.{authority_ascii, IsAscii-from_all_ascii}
use Rattle.ref_uri.proofs.target.push_authority.Goals as goal

pub push_authority-requires-clause-ascii : goal.push_authority-requires-clause-ascii
push_authority-requires-clause-ascii c =
    let h : is_authority c.in-Some.authority.now ≡ true = rw c.in-Some.is at c.requires.authority in
    IsAscii-from_all_ascii c.in-Some.authority.now (authority_ascii c.in-Some.authority.now h)

pub returns-clause-ascii : goal.returns-clause-ascii
returns-clause-ascii c =
    c.in_ok-push_authority.ensures.ascii (subst IsAscii (sym c.in_ok-push_str.ensures.bytes) (IsAscii-append (string_bytes c.args.buffer.now) (codes "//") c.requires.buffer_ascii (search rules)))
