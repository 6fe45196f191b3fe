use Rattle.std.proofs.Common.{◌≡◌, ◌∙◌, take, ◌≤◌, length, string_bytes, subst, sym, ap, arith}
use Rattle.std.proofs.lemmas.Str.{IsUtf8-string_bytes, IsCharBoundary-from_take}
use Rattle.std.specs.Str.{IsUtf8}
use Rattle.ref_parts.proofs.EscapeLaws.{at_err}
use Rattle.ref_parts.proofs.escape.write_escaped_str.Goals as goal

pub truncate-requires : goal.truncate-requires
truncate-requires c within =
    let n = c.len-len.result in
    let new = c.push_escaped-pushed.new.buffer in
    let fits : n ≤ length (string_bytes new) = omega (arith, new.bytes.ok.0, within) in
    let front : take n (string_bytes new) ≡ string_bytes c.args.buffer.now = ap (λ m. take m (string_bytes new)) c.len-len.ensures ∙ at_err c.push_escaped-pushed.result (sym c.is_err.ensures.value ∙ c.if-is_err.true) c.push_escaped-pushed.ensures.err in
    let boundary = IsCharBoundary-from_take (string_bytes new) n (IsUtf8-string_bytes new) fits (subst IsUtf8 (sym front) (IsUtf8-string_bytes c.args.buffer.now)) in
    (boundary.0, λ _. boundary.1)
