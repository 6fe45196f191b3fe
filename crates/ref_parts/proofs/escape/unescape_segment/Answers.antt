use Rattle.std.proofs.Common.{◌∷◌, ◌++◌, ap, sym, ◌∙◌, arith}
use Rattle.std.proofs.lemmas.Str.Pattern.{split_parts}
use Rattle.ref_parts.specs.Pointer.{unescape}
use Rattle.ref_parts.proofs.EscapeLaws.{unescape_run, unescape_plain}
use Rattle.ref_parts.proofs.escape.unescape_segment.Goals as goal

pub returns-in_default-clause-value : goal.returns-in_default-clause-value
returns-in_default-clause-value c =
    let none = rw c.in_default.is at (split_parts 126 c.args.segment.now c.split_once.result c.split_once.ensures.cases (omega arith)) in
    sym (unescape_plain c.args.segment.now none)

pub returns-clause-value : goal.returns-clause-value
returns-clause-value c =
    let cut = rw c.in-Some.is at (split_parts 126 c.args.segment.now c.split_once.result c.split_once.ensures.cases (omega arith)) in
    let front = c.in_ok-push_str.ensures.bytes ∙ ap (λ x. x ++ c.in-Some.front.now) c.in_ok-key.ensures.bytes in
    c.in_ok-push_unescaped.ensures ∙ ap (λ x. x ++ unescape (126 ∷ c.in-Some.escaped.now)) front
    ∙ sym (ap unescape cut.0 ∙ unescape_run c.in-Some.front.now (126 ∷ c.in-Some.escaped.now) cut.1)
