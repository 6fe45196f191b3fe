use Rattle.std.proofs.Common.{◌≡◌, ◌+◌, ◌++◌, length, slice_range, take, drop, string_bytes, ◌<◌, append_assoc, ap, sym, ◌∙◌, arith, lit<}
use Rattle.std.proofs.lemmas.List.{take_at, drop_at, drop-drop, length-drop}
use Rattle.std.proofs.lemmas.Str.Pattern.{find_char}
use Rattle.std.proofs.lemmas.Result.{on_ok_weaker}
use Rattle.ref_uri.specs.DotSegments.{segments}
use Rattle.ref_uri.specs.inner.Removal.{path_then, progress_then, end_of, ended_path}
use Rattle.ref_uri.proofs.PartLemmas.{with_appended, left_of, front_of, only_segment, first_segment}
use Rattle.ref_uri.proofs.RemovalLaws.{written_is_removed}
use Rattle.ref_uri.proofs.dots.push_again.Goals as goal

pub segments-preserved : goal.segments-preserved
segments-preserved c =
    let text = string_bytes c.args.buffer.now in
    let buffer = string_bytes c.segments.buffer in
    let end = c.len-end.result in
    let at = c.segments.at in
    let len = c.in-Some.len in
    let left = drop at text in
    let segment = take len left in
    let inv = c.segments.invariant in
    let long : length text ≡ end = omega arith in
    let here : c.range.result.now ≡ left = c.range.ensures.value ∙ ap (λ t. slice_range t at end) c.deref.ensures ∙ left_of buffer text at end inv.0 long inv.3 in
    let slash = rw here at (rw c.in-Some.is at (find_char 47 c.range.result.now c.find.result c.find.ensures.cases (lit< tt))) in
    let within : len < length left = slash.0 in
    let part = front_of buffer text at len end inv.0 long (omega (arith, length-drop at text)) in
    let path = path_then c.segments.progress (drop end buffer) segment in
    let written : string_bytes c.push_part.new.buffer ≡ text ++ path =
    c.in_ok-progress.ensures.text text (drop end buffer) (with_appended buffer text end inv.0) long ∙ ap (λ s. text ++ path_then c.segments.progress (drop end buffer) s) part in
    let behind = drop (at + (len + 1)) text in (
      ap (take end) written ∙ take_at text path end long,
      ap (λ p. ended_path p (drop end (string_bytes c.push_part.new.buffer)) (segments behind)) (c.in_ok-progress.ensures.progress ∙ ap (progress_then c.segments.progress) part)
          ∙ ap (λ w. ended_path (progress_then c.segments.progress segment) w (segments behind)) (ap (drop end) written ∙ drop_at text path end long)
          ∙ ap (λ t. ended_path (progress_then c.segments.progress segment) path (segments t)) (sym (drop-drop (len + 1) at text))
          ∙ ap (ended_path c.segments.progress (drop end buffer)) (sym (first_segment left len slash.0 slash.1 slash.2))
          ∙ inv.1,
      c.in_ok-progress.ensures.ascii,
      omega (arith, length-drop at text),
      c.in_ok-progress.ensures.start,
    )

pub returns-clause-text : goal.returns-clause-text
returns-clause-text c =
    let text = string_bytes c.args.buffer.now in
    let buffer = string_bytes c.segments.buffer in
    let end = c.len-end.result in
    let at = c.segments.at in
    let left = drop at text in
    let inv = c.segments.invariant in
    let long : length text ≡ end = omega arith in
    let part = left_of buffer text at end inv.0 long inv.3 in
    let here : c.range.result.now ≡ left = c.range.ensures.value ∙ ap (λ t. slice_range t at end) c.deref.ensures ∙ part in
    let none = rw here at (rw c.in_default.is at (find_char 47 c.range.result.now c.find.result c.find.ensures.cases (lit< tt))) in
    let path = path_then c.segments.progress (drop end buffer) left in
    let written : string_bytes c.push_part-2.new.buffer ≡ text ++ path =
    c.in_ok-progress-2.ensures.text text (drop end buffer) (with_appended buffer text end inv.0) long ∙ ap (λ s. text ++ path_then c.segments.progress (drop end buffer) s) part in
    on_ok_weaker c.push_end.result
    (λ ends. ends ∙ ap (λ p. string_bytes c.push_part-2.new.buffer ++ end_of p) (c.in_ok-progress-2.ensures.progress ∙ ap (progress_then c.segments.progress) part)
    ∙ ap (λ t. t ++ end_of (progress_then c.segments.progress left)) written ∙ append_assoc text path (end_of (progress_then c.segments.progress left))
    ∙ ap (λ t. text ++ t) (ap (ended_path c.segments.progress (drop end buffer)) (sym (only_segment left none)) ∙ inv.1 ∙ written_is_removed (drop c.args.start text)))
    c.push_end.ensures.text
