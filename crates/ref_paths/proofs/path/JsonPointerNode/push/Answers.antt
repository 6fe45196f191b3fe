use Rattle.std.proofs.Common.{[], ◌∷◌, ◌++◌, ap, ◌∙◌}
use Rattle.ref_paths.specs.Segment.{part_of}
use Rattle.ref_paths.specs.declared.path.Link.{Link}
use Rattle.ref_paths.proofs.path.JsonPointerNode.push.Goals as goal

pub returns : goal.returns
returns g c =
    let segment = c.into-segment.result in
    let link = ap (λ (l : Link). l.parent ++ part_of l.segment ∷ []) c.in_ok-link.ensures.ok in
    let parent = ap (λ p. p ++ part_of segment ∷ []) c.in_ok-parent.ensures.cases in
    record { value = (segment, c.into-segment.ensures, c.from_last.ensures ∙ link ∙ parent) }
