use Rattle.std.proofs.Common.{sym, subst}
use Rattle.std.specs.List.{AllByRecursion}
use Rattle.std.proofs.lemmas.List.Elements.{recursion_from_All}
use Rattle.ref_bundle.specs.Parts.{HasBase}
use Rattle.ref_bundle.proofs.parts.BundleParts.listed.Goals as goal

pub all_embedded-requires : goal.all_embedded-requires
all_embedded-requires c =
    subst (AllByRecursion HasBase) (sym c.as_slice.ensures.value) (recursion_from_All HasBase c.args.self.now.embedded.items c.args.self.now.bases)
