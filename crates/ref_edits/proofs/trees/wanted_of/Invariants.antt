use Rattle.std.proofs.Common.{◌≡◌, ℕ, List, take}
use Rattle.ref_edits.specs.Changed as spec
use Rattle.ref_edits.specs.declared.plan.Part.TheVariants.{Key, Text}
use Rattle.ref_edits.proofs.trees.wanted_of.Given as goal

abbrev pub invariant-loop-change : goal.invariant-loop-change
invariant-loop-change l =
    ((p : List ℕ) → (spec.wanted_of l.wanted).text p ≡ spec.new_in l.document Text p (take l.change-index l.changes))
    × ((p : List ℕ) → (spec.wanted_of l.wanted).key p ≡ spec.new_in l.document Key p (take l.change-index l.changes))
