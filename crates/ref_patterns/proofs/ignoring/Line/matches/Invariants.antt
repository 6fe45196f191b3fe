use Rattle.std.proofs.Common.{◌≡◌, drop}
use Rattle.ref_patterns.specs.Patterns.{any_matches, parts_in}
use Rattle.ref_patterns.proofs.ignoring.Line.matches.Given as goal

abbrev pub invariant-loop-parts : goal.invariant-loop-parts
invariant-loop-parts l =
    any_matches (parts_in (drop l.parts-index l.self.alternatives.items)) l.path ≡ any_matches (parts_in l.self.alternatives.items) l.path
