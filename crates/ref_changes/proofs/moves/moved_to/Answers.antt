use Rattle.std.proofs.Common.{◌<◌, ◌∙◌, length, rules}
use Rattle.ref_paths.specs.Segment.{part_of}
use Rattle.ref_changes.specs.Views.{image_view, moves_in}
use Rattle.ref_changes.proofs.Images.{one_more}
use Rattle.ref_changes.proofs.moves.moved_to.Goals as goal

pub loop-index-preserved : goal.loop-index-preserved
loop-index-preserved c =
    let l = c.loop-index in
    let within : l.index < length c.args.path.now = search rules in
    l.invariant
    ∙ one_more part_of (moves_in c.args.table.now) c.args.document c.args.path.now l.index (image_view l.image) (image_view c.in_ok-image-2.image) within
    (c.in_ok-image-2.ensures c.args.document (search rules))
