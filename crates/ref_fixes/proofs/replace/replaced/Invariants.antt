use Rattle.std.proofs.Common.{◌≡◌, ◌++◌, length, map, IsCharBoundary}
use Rattle.ref_fixes.specs.Replace as spec
use Rattle.ref_fixes.proofs.replace.replaced.Given as goal

abbrev pub invariant-parts : goal.invariant-parts
invariant-parts l =
    IsCharBoundary l.text l.at
    × spec.AreWithin l.at (map spec.part_of l.rest) l.text
    × (l.out.bytes.items ++ spec.replaced l.at (map spec.part_of l.rest) l.text
    ≡ spec.replaced 0 (map spec.part_of l.parts) l.text)

abbrev pub decreases-parts : goal.decreases-parts
decreases-parts l = length l.rest
