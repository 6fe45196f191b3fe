use Rattle.std.proofs.Common.{◌≡◌, ◌+◌, List, ℕ, true, ◌∷◌, ◌++◌, take, drop, map, sym, ap, ◌∙◌, subst, arith}
use Rattle.std.specs.List.{AllByRecursion, position_or_len}
use Rattle.std.proofs.lemmas.List.{take-append-drop}
use Rattle.std.proofs.lemmas.Result.{on_ok_weaker, MatchResult-weaker}
use Rattle.ref_uri.specs.Characters.{has_whole_triples}
use Rattle.ref_uri.specs.DotSegments.{segments}
use Rattle.ref_uri.specs.inner.Written.{written_text}
use Rattle.ref_uri.specs.inner.Removal.{path_then, progress_then, path_after, progress_after}
use Rattle.ref_uri.proofs.LastSlash.{is_slash}
use Rattle.ref_uri.proofs.NormalLemmas.{whole_after}
use Rattle.ref_uri.proofs.SegmentLemmas.{segments_are_whole}
use Rattle.ref_uri.proofs.GivenSegments.{cut_off, whole_segment, left_on}
use Rattle.ref_uri.proofs.dots.push_each_segment.Goals as goal

pub push_segment-requires-clause-triples : goal.push_segment-requires-clause-triples
push_segment-requires-clause-triples c =
    let rest = c.segments.rest.now in
    let inv = c.segments.invariant in
    let all = subst (AllByRecursion (λ (s : List ℕ). has_whole_triples s ≡ true)) (cut_off rest c.segments.len inv.5 (omega arith)) (segments_are_whole rest inv.4) in
    ap has_whole_triples c.head.ensures ∙ all.0

pub segments-preserved : goal.segments-preserved
segments-preserved c =
    let form = c.args.form in
    let rest = c.segments.rest.now in
    let len = c.segments.len in
    let inv = c.segments.invariant in
    let behind = drop (len + 1) rest in
    let progress = c.segments.progress in
    let cut = cut_off rest len inv.5 (omega arith) ∙ ap (λ t. take len rest ∷ segments t) (sym c.tail-rest.ensures.value) in (
      left_on form c.args.start _ _ _ c.args.progress progress c.in_ok-progress.progress c.args.path.now rest (take len rest) c.tail-rest.result.now inv.0 cut
          (λ before w e n. c.in_ok-progress.ensures.text before w e n ∙ ap (λ s. before ++ path_then progress w (written_text form s)) c.head.ensures)
          (c.in_ok-progress.ensures.progress ∙ ap (λ s. progress_then progress (written_text form s)) c.head.ensures),
      c.in_ok-progress.ensures.ascii,
      c.in_ok-progress.ensures.start,
      c.tail-rest.ensures.ascii,
      ap has_whole_triples c.tail-rest.ensures.value
          ∙ whole_after (take (len + 1) rest) behind (ap has_whole_triples (take-append-drop (len + 1) rest) ∙ inv.4),
      c.index_of-len-in-segments.ensures.value ∙ ap (position_or_len is_slash) c.as_bytes-in-segments.ensures.value,
      c.tail-rest.utf8,
    )

pub returns-clause-text : goal.returns-clause-text
returns-clause-text c = λ before path e n.
    let form = c.args.form in
    let inv = c.segments.invariant in
    let so_far = inv.0.text before path e n in
    let whole = whole_segment c.segments.rest.now c.segments.len inv.5 (omega arith) in
    on_ok_weaker c.push_segment-2.result
    (λ is. is ∙ ap (λ t. before ++ t) (ap (λ ss. path_after c.segments.progress so_far.0 (map (written_text form) ss)) (sym whole) ∙ so_far.2))
    (c.push_segment-2.ensures.text before so_far.0 so_far.1 n)

pub returns-clause-progress : goal.returns-clause-progress
returns-clause-progress c =
    let form = c.args.form in
    let inv = c.segments.invariant in
    let whole = whole_segment c.segments.rest.now c.segments.len inv.5 (omega arith) in
    MatchResult-weaker c.push_segment-2.result c.push_segment-2.ensures.progress
    (λ p is. is ∙ ap (λ ss. progress_after c.segments.progress (map (written_text form) ss)) (sym whole) ∙ inv.0.is) (λ _ h. h)
