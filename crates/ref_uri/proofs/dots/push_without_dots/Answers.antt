use Rattle.std.proofs.Common.{◌++◌, [], string_bytes, ap, sym, ◌∙◌, arith}
use Rattle.std.proofs.lemmas.List.{append-nil}
use Rattle.std.proofs.lemmas.Result.{on_ok_weaker}
use Rattle.ref_uri.specs.DotSegments.{remove_dot_segments}
use Rattle.ref_uri.proofs.RemovalLaws.{ended_is_removed}
use Rattle.ref_uri.proofs.dots.push_without_dots.Goals as goal

pub returns-clause-text : goal.returns-clause-text
returns-clause-text c =
    let buffer = string_bytes c.args.buffer.now in
    on_ok_weaker c.push_rest.result
    (λ text. text ∙ ap (λ t. buffer ++ t) (ended_is_removed c.of_parts.result c.args.path.now c.requires.triples ∙ ap remove_dot_segments c.of_parts.ensures))
    (c.push_rest.ensures.text buffer [] (sym (append-nil buffer)) (omega (arith, c.args.buffer.now.bytes.ok.0)))
