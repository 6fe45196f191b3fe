-- Values that are to be looked at.
use Rattle.std.specs.Prelude.{List, [], ◌∷◌, string_bytes, ⊤}
use Rattle.serde_json.specs.View.{view}
use Rattle.ref_edits.specs.declared.trees.Pair.{Pair}
use Rattle.ref_edits.specs.Changed.{Wanted, IsAfter}

abbrev pub IsPairAfter : Wanted → Pair → Type 0
IsPairAfter w p = IsAfter w (string_bytes p.pointer) (view p.before.now) (view p.after.now)

abbrev pub AllAfter : Wanted → List Pair → Type 0
AllAfter w [] = ⊤
AllAfter w (p ∷ ps) = IsPairAfter w p × AllAfter w ps
