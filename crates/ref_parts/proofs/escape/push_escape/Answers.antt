use Rattle.std.proofs.Common.{◌∷◌, ◌++◌, [], ap, sym, ◌∙◌, append_assoc, arith, string_bytes}
use Rattle.std.proofs.lemmas.Str.Pattern.{strip_prefix_char}
use Rattle.ref_parts.specs.Pointer.{unescape}
use Rattle.ref_parts.proofs.EscapeLaws.{unescape_kept}
use Rattle.ref_parts.proofs.escape.push_escape.Goals as goal

pub returns-in_ok-push-3-clause-byte : goal.returns-in_ok-push-3-clause-byte
returns-in_ok-push-3-clause-byte c =
    let after = c.args.after.now in
    let no_one = rw c.in_default.is at (strip_prefix_char 49 after c.strip_prefix.result c.strip_prefix.ensures.cases (omega arith)) in
    let no_zero = rw c.in_default-strip_prefix.is at (strip_prefix_char 48 after c.strip_prefix-in_default.result c.strip_prefix-in_default.ensures.cases (omega arith)) in
    let key = string_bytes c.args.key.now in
    let pushed = c.in_ok-push-3.ensures.bytes ∙ ap (λ x. key ++ x) (c.in_ok-push-3.ensures.ascii (omega arith)) in
    ap (λ x. x ++ unescape after) pushed ∙ append_assoc key (126 ∷ []) (unescape after) ∙ ap (λ x. key ++ x) (sym (unescape_kept after no_one no_zero))
