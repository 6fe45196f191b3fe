use Rattle.std.proofs.Common.{◌≡◌, List, [], ◌∷◌, ◌++◌, ◌&&◌, sym, ap, ◌∙◌}
use Rattle.std.proofs.lemmas.Bool.{not-true, not-false}
use Rattle.ref_paths.specs.Path.{Part, part_eq, path_eq}
use Rattle.ref_paths.specs.Segment.{part_of}
use Rattle.ref_paths.specs.inner.Link.{path_of}
use Rattle.ref_paths.specs.declared.path.Link.{Link}
use Rattle.ref_paths.proofs.NodeLaws.{path_eq-push, and_false_right, and_true_right}
use Rattle.ref_paths.proofs.path.JsonPointerNodePartialEq.eq.Goals as goal

-- two paths that end in links are compared by the links' parents and segments
compared : (left right : List Part) (a b l r : Link) → left ≡ a.parent ++ part_of a.segment ∷ [] → right ≡ b.parent ++ part_of b.segment ∷ [] → l ≡ a → r ≡ b → path_eq left right ≡ (path_eq a.parent b.parent && part_eq (part_of l.segment) (part_of r.segment))
compared left right a b l r is is' at at' =
    path_eq-push left right a.parent b.parent (part_of a.segment) (part_of b.segment) is is'
    ∙ sym (ap (λ (x : Link). path_eq a.parent b.parent && part_eq (part_of x.segment) (part_of r.segment)) at ∙ ap (λ (x : Link). path_eq a.parent b.parent && part_eq (part_of a.segment) (part_of x.segment)) at')

pub returns-then-ne : goal.returns-then-ne
returns-then-ne c =
    let both = compared _ _ _ _ c.deref.result.now c.deref-in-Some-Some.result.now (sym c.left.view_is ∙ ap path_of c.in-Some-Some.is-0) (sym c.right.view_is ∙ ap path_of c.in-Some-Some.is-1) c.deref.ensures c.deref-in-Some-Some.ensures in
    sym (sym c.loop-left.invariant ∙ both ∙ and_false_right _ _ (not-true _ (sym c.ne.ensures ∙ c.if-ne.true)))

pub loop-left-preserved : goal.loop-left-preserved
loop-left-preserved c =
    let a = c.in-Some-Some.a.value in
    let both = compared _ _ _ _ c.deref.result.now c.deref-in-Some-Some.result.now (sym c.left.view_is ∙ ap path_of c.in-Some-Some.is-0) (sym c.right.view_is ∙ ap path_of c.in-Some-Some.is-1) c.deref.ensures c.deref-in-Some-Some.ensures in
    let before = ap (λ (l : Link). l.parent) c.deref-in-Some-Some-2.ensures in
    let before' = ap (λ (l : Link). l.parent) c.deref-in-Some-Some-3.ensures in
    ap (λ x. path_eq x c.deref-in-Some-Some-3.result.now.parent) before ∙ ap (path_eq a.parent) before'
    ∙ sym (both ∙ and_true_right _ _ (not-false _ (sym c.ne.ensures ∙ c.if-ne.false))) ∙ c.loop-left.invariant
