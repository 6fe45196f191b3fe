use Rattle.std.proofs.Common.{◌≡◌, drop}
use Rattle.ref_patterns.specs.Patterns.{any_matches, alternatives_of, parts_in}
use Rattle.ref_patterns.proofs.pattern.Pattern.matches.Given as goal

abbrev pub invariant-loop-parts : goal.invariant-loop-parts
invariant-loop-parts l =
    any_matches (parts_in (drop l.parts-index l.self.alternatives.items)) l.path ≡ any_matches (alternatives_of l.self) l.path
