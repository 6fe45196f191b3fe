use Rattle.std.proofs.Common.{◌≡◌, ◌∷◌, List, ◌+◌}
use Rattle.ref_patterns.specs.declared.pattern.Part.{Part}
use Rattle.ref_patterns.specs.declared.pattern.Part.TheVariants as part
use Rattle.ref_patterns.specs.inner.Ends.{AreOf, matched}
use Rattle.ref_patterns.proofs.matching.Ends.with_byte.Given as goal

abbrev pub invariant-loop-bytes : goal.invariant-loop-bytes
invariant-loop-bytes l =
    (p : List Part) → AreOf p l.path l.self.are_matched.items
    → l.ends.are_matched.items ≡ matched (part.Byte l.byte ∷ p) l.path (l.bytes + 1)
