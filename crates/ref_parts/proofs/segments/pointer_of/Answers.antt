use Rattle.std.proofs.Common.{◌≡◌, ◌∙◌, ◌∷◌, ◌++◌, [], ◌+◌, sym, ap, subst, map, take}
use Rattle.std.proofs.lemmas.List.{take_more, map-append}
use Rattle.ref_paths.specs.Path.{HasFittingIndexes}
use Rattle.ref_parts.specs.Pointer.{slash, part_text, pointer_text}
use Rattle.ref_paths.specs.Segment.{part_of}
use Rattle.ref_parts.proofs.SegmentLaws.{text_more, fits_more}
use Rattle.ref_parts.proofs.segments.pointer_of.Goals as goal

pub loop-segment-preserved : goal.loop-segment-preserved
loop-segment-preserved c =
    let path = c.args.path.now in
    let i = c.loop-segment.segment-index in
    let item = c.segment-item.result in
    let front = map part_of (take i path) in
    let more : map part_of (take (i + 1) path) ≡ front ++ part_of item ∷ [] =
    ap (map part_of) (take_more path i item c.loop-segment-test.true ∙ ap (λ s. take i path ++ s ∷ []) (sym c.segment-item.is)) ∙ map-append part_of (take i path) (item ∷ []) in (
      c.in_ok-push_segment.ensures.text ∙ ap (λ l. l ++ slash ∷ part_text (part_of item)) c.loop-segment.invariant.0 ∙ text_more front (part_of item) ∙ ap pointer_text (sym more),
      subst HasFittingIndexes (sym more) (fits_more front (part_of item) c.loop-segment.invariant.1 c.in_ok-push_segment.ensures.fits),
    )
