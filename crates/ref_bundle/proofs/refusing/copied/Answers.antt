use Rattle.std.proofs.Common.{◌≡◌, rules}
use Rattle.std.specs.List.{AllZip}
use Rattle.ref_paths.specs.Segment.{part_of}
use Rattle.ref_bundle.proofs.Bearing.{copied_parts}
use Rattle.ref_bundle.proofs.refusing.copied.Goals as goal

pub returns : goal.returns
returns c =
    let copies : AllZip (λ s copy. part_of copy ≡ part_of s) c.args.path.now c.in_ok-copy.copy.items = search rules in
    record { value = copied_parts c.args.path.now c.in_ok-copy.copy.items copies }
