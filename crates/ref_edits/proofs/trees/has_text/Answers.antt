use Rattle.std.proofs.Common.{List, ℕ, bytes_eq, sym, ◌∙◌}
use Rattle.std.specs.Borrow.{Bor}
use Rattle.ref_edits.proofs.Changing.{any_map}
use Rattle.ref_edits.proofs.trees.has_text.Goals as goal

pub returns : goal.returns
returns c = c.contains.ensures.value ∙ sym (any_map (λ (k : List ℕ). bytes_eq k c.args.text.now) (λ (t : Bor (List ℕ)). t.now) c.args.texts.now)
