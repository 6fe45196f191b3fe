use Rattle.std.proofs.Common.{◌++◌, ◌∙◌, option_copied, ap, sym, subst, string_bytes}
use Rattle.std.specs.Str.{IsAscii}
use Rattle.std.proofs.lemmas.Str.{IsAscii-append}
use Rattle.ref_uri.proofs.TargetLemmas.{front_kept}
use Rattle.ref_uri.proofs.target.push_front.Goals as goal

pub returns-in_ok-push_str-in-Some-clause-text : goal.returns-in_ok-push_str-in-Some-clause-text
returns-in_ok-push_str-in-Some-clause-text c =
    let front = c.requires.target.front_test c.in-Some.front.now (ap option_copied c.in-Some.is) in
    let kept = front_kept (option_copied c.args.target.scheme) (option_copied c.args.target.authority) _ _ (c.keeps_front.ensures.scheme c.if-keeps_front.true) (c.keeps_front.ensures.authority c.if-keeps_front.true) in
    c.in_ok-push_str-in-Some.ensures.bytes ∙ ap (λ t. string_bytes c.args.buffer.now ++ t) (front.0 ∙ kept)

pub returns-in_ok-push_str-in-Some-clause-ascii : goal.returns-in_ok-push_str-in-Some-clause-ascii
returns-in_ok-push_str-in-Some-clause-ascii c =
    let front = c.requires.target.front_test c.in-Some.front.now (ap option_copied c.in-Some.is) in
    subst IsAscii (sym c.in_ok-push_str-in-Some.ensures.bytes) (IsAscii-append (string_bytes c.args.buffer.now) c.in-Some.front.now c.requires.buffer_ascii front.1)
