use Rattle.std.proofs.Common.{◌∷◌, ◌++◌, string_bytes, ap, sym, ◌∙◌, arith, rules}
use Rattle.std.proofs.lemmas.Str.Pattern.{split_parts}
use Rattle.ref_parts.specs.Pointer.{unescape}
use Rattle.ref_parts.proofs.EscapeLaws.{unescape_turn, unescape_plain}
use Rattle.ref_parts.proofs.escape.push_unescaped.Goals as goal

pub runs-preserved : goal.runs-preserved
runs-preserved c =
    let l = c.runs in
    let cut = rw c.in-Some.is at (split_parts 126 l.rest.now c.split_once.result c.split_once.ensures.cases (omega arith)) in
    let turn = unescape_turn (string_bytes l.key) l.rest.now c.in-Some.run'.now c.in-Some.after.now cut.0 cut.1 in
    let run = ap (λ x. x ++ unescape (126 ∷ c.in-Some.after.now)) c.in_ok-push_str.ensures.bytes in
    (c.in_ok-rest-2.ensures.byte ∙ run ∙ turn ∙ l.invariant.0, c.in_ok-rest-2.ensures.text)

pub returns : goal.returns
returns c =
    let l = c.runs in
    let none = rw c.in_default.is at (split_parts 126 l.rest.now c.split_once.result c.split_once.ensures.cases (omega arith)) in
    let plain = ap (λ x. string_bytes l.key ++ x) (sym (unescape_plain l.rest.now none)) ∙ l.invariant.0 in
    rw (← plain) (search rules)
