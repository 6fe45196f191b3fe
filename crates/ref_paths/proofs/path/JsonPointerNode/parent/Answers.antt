use Rattle.std.proofs.Common.{◌≡◌, [], ◌∷◌, ◌++◌, Some, sym, ap, ◌∙◌}
use Rattle.ref_paths.specs.Path.{parent_path}
use Rattle.ref_paths.specs.Segment.{part_of}
use Rattle.ref_paths.specs.inner.Link.{path_of}
use Rattle.ref_paths.specs.declared.path.Link.{Link}
use Rattle.ref_paths.proofs.NodeLaws.{parent_path-push}
use Rattle.ref_paths.proofs.path.JsonPointerNode.parent.Goals as goal

pub returns-in-Some : goal.returns-in-Some
returns-in-Some c =
    let link = c.in-Some.link.value in
    let shape : c.args.self.now ≡ link.parent ++ part_of link.segment ∷ [] = sym c.self.view_is ∙ ap path_of c.in-Some.is in
    record { value = ap (λ (l : Link). Some l.parent) c.deref.ensures ∙ sym (ap parent_path shape ∙ parent_path-push link.parent (part_of link.segment)) }
