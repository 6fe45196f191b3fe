use Rattle.std.proofs.Common.{◌≡◌, map, take, drop}
use Rattle.ref_paths.specs.Segment.{part_of}
use Rattle.ref_changes.specs.Moves.{image, image_along}
use Rattle.ref_changes.specs.Views.{image_view, moves_in}
use Rattle.ref_changes.proofs.Images.{spot_until}
use Rattle.ref_changes.proofs.moves.moved_to.Given as goal

abbrev pub invariant-loop-index : goal.invariant-loop-index
invariant-loop-index l =
    image (moves_in l.table) (record { document = l.document; path = map part_of l.path })
    ≡ image_along (moves_in l.table) (spot_until part_of l.document l.path l.index) (image_view l.image) (map part_of (drop l.index l.path))
