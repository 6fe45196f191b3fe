use Rattle.std.proofs.Common.{◌≡◌, ◌++◌, map, take}
use Rattle.ref_reach.specs.Held.{held_part, identified, parts_held}
use Rattle.ref_reach.specs.Views.{place_of}
use Rattle.ref_reach.specs.Knowing.{part_in}
use Rattle.ref_reach.proofs.documents.with_parts.Given as goal

abbrev pub invariant-loop-place : goal.invariant-loop-place
invariant-loop-place l =
    let passed = map place_of (take l.place-index l.places) in
    (l.walked ≡ l.initial.walked ++ map held_part (identified passed)) × (map part_in l.parts.items ≡ map part_in l.initial.parts.items ++ parts_held passed)
