use Rattle.std.proofs.Common.{◌≡◌, drop}
use Rattle.ref_patterns.specs.Choices as spec
use Rattle.ref_patterns.proofs.choices.texts_of.Given as goal

abbrev pub invariant-loop-index : goal.invariant-loop-index
invariant-loop-index l = spec.texts_after l.read (drop l.index l.text) ≡ spec.texts_of l.text
