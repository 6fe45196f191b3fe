use Rattle.std.proofs.Common.{sym, subst}
use Rattle.std.specs.List.{AllByRecursion}
use Rattle.std.proofs.lemmas.List.Elements.{recursion_from_All}
use Rattle.ref_bundle.specs.Parts.{HasBase}
use Rattle.ref_bundle.proofs.parts.BundleParts.assembled.Goals as goal

pub tree_with-requires : goal.tree_with-requires
tree_with-requires c =
    subst (AllByRecursion HasBase) (sym c.as_slice.ensures.value) (recursion_from_All HasBase c.args.self.now.embedded.items c.args.self.now.bases)
