use Rattle.std.proofs.Common.{◌≡◌, ◌++◌, [], map, string_bytes, ap, sym, ◌∙◌, arith}
use Rattle.std.proofs.lemmas.List.{append-nil}
use Rattle.std.proofs.lemmas.Result.{on_ok_weaker}
use Rattle.ref_uri.specs.DotSegments.{segments}
use Rattle.ref_uri.specs.inner.Written.{written_text}
use Rattle.ref_uri.specs.inner.Removal.{path_after, progress_after, ended_path}
use Rattle.ref_uri.specs.declared.dots.Progress.TheVariants.{Front}
use Rattle.ref_uri.proofs.RemovalLaws.{merged_is_removed, parts_alike}
use Rattle.ref_uri.proofs.dots.push_merged_without_dots.Goals as goal

pub returns-clause-text : goal.returns-clause-text
returns-clause-text c =
    let buffer = string_bytes c.args.buffer.now in
    let parts = map (written_text c.of_parts-in_front.result) (segments c.args.directory.now) in
    let rest = map (written_text c.of_parts.result) (segments c.args.path.now) in
    let in_front : parts ≡ map (written_text c.args.form) (segments c.args.directory.now) = parts_alike c.of_parts-in_front.result c.args.form c.args.directory.now c.requires.directory_triples c.of_parts-in_front.ensures in
    let behind : rest ≡ map (written_text c.args.form) (segments c.args.path.now) = parts_alike c.of_parts.result c.args.form c.args.path.now c.requires.triples c.of_parts.ensures in
    let front = c.in_ok-progress.ensures.text buffer [] (sym (append-nil buffer)) (omega (arith, c.args.buffer.now.bytes.ok.0)) in
    on_ok_weaker c.push_rest.result
    (λ text. text ∙ ap (λ p. buffer ++ ended_path p (path_after Front [] parts) rest) c.in_ok-progress.ensures.progress ∙ ap (λ ps. buffer ++ ended_path (progress_after Front ps) (path_after Front [] ps) rest) in_front
    ∙ ap (λ rs. buffer ++ ended_path (progress_after Front (map (written_text c.args.form) (segments c.args.directory.now))) (path_after Front [] (map (written_text c.args.form) (segments c.args.directory.now))) rs) behind
    ∙ ap (λ t. buffer ++ t) (merged_is_removed c.args.form c.args.directory.now c.args.path.now c.requires.directory_triples c.requires.triples))
    (c.push_rest.ensures.text buffer (path_after Front [] parts) front (omega (arith, c.args.buffer.now.bytes.ok.0)))
