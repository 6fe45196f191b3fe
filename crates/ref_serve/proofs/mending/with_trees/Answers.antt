use Rattle.std.proofs.Common.{◌≡◌, ◌∷◌, ◌++◌, [], ap, sym, ◌∙◌, map, rules, append-nil}
use Rattle.std.specs.Prelude.{unwrap_or}
use Rattle.std.specs.Option.{option_flatten}
use Rattle.std.specs.Vec.Iter.{into_iter_items, into_iter_len}
use Rattle.std.proofs.lemmas.List.{nil_from_length}
use Rattle.ref_calls.specs.Given.{given_of}
use Rattle.ref_serve.specs.inner.Mended.{tree_maybe, with_trees}
use Rattle.ref_serve.proofs.Passing.{one_with_tree}
use Rattle.ref_serve.proofs.mending.with_trees.Goals as goal

pub loop-document-preserved : goal.loop-document-preserved
loop-document-preserved c =
    let l = c.loop-document in
    let rest = into_iter_items c.next.new.self in
    let document = c.in-Some.document in
    let made = c.with_tree.result in
    let next = c.next-in-loop-document.result in
    let before = into_iter_items l.trees in
    let after = into_iter_items c.next-in-loop-document.new.self in
    let all = with_trees (map given_of c.args.documents.items) (map tree_maybe c.args.trees.items) in
    let steps : into_iter_items l.document-iterator ≡ document ∷ rest = c.in-Some.ensures.steps.0 in
    let same : given_of made ≡ ((given_of document).0, unwrap_or (tree_maybe (option_flatten next)) (given_of document).1) =
    c.with_tree.ensures ∙ ap (λ t. ((given_of document).0, unwrap_or (tree_maybe t) (given_of document).1)) c.flatten-tree.ensures in
    let more = one_with_tree l.list.items rest document made before after next (into_iter_len l.trees) (into_iter_len c.next-in-loop-document.new.self) all c.next-in-loop-document.ensures.items c.next-in-loop-document.ensures.cases l.invariant.2 same
    (ap (λ ds. map given_of l.list.items ++ with_trees (map given_of ds) (map tree_maybe before)) (sym steps) ∙ l.invariant.0) in (
      ap (λ ds. map given_of ds ++ with_trees (map given_of rest) (map tree_maybe after)) c.in_ok-push.ensures.items ∙ more.0,
      search rules,
      more.1,
    )

pub returns : goal.returns
returns c =
    let l = c.loop-document in
    let none : into_iter_items l.document-iterator ≡ [] = nil_from_length (into_iter_items l.document-iterator) (sym l.invariant.1 ∙ c.in-None.ensures.steps.0) in
    sym (append-nil (map given_of l.list.items)) ∙ ap (λ ds. map given_of l.list.items ++ with_trees (map given_of ds) (map tree_maybe (into_iter_items l.trees))) (sym none) ∙ l.invariant.0
