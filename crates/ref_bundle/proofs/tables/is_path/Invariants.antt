use Rattle.std.proofs.Common.{◌≡◌, map, drop, length}
use Rattle.std.specs.Cmp.Lexicographic.{pointwise}
use Rattle.ref_paths.specs.Path.{part_eq, path_eq}
use Rattle.ref_paths.specs.Segment.{part_of}
use Rattle.ref_bundle.proofs.tables.is_path.Given as goal

abbrev pub invariant-loop-index : goal.invariant-loop-index
invariant-loop-index l =
    (pointwise part_eq (map part_of (drop l.index l.path)) (map part_of (drop l.index l.other)) ≡ path_eq (map part_of l.path) (map part_of l.other)) × (length l.path ≡ length l.other)
