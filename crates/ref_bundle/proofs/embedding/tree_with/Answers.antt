use Rattle.std.proofs.Common.{◌≡◌, ◌==◌, false, map, length, IfOk, ap, sym, subst, ◌∙◌, true≢false, rules}
use Rattle.std.proofs.lemmas.Bool.{eq-eqb}
use Rattle.serde_json.specs.Data.{object}
use Rattle.serde_json.specs.View.{view}
use Rattle.serde_json.specs.declared.value.Value.{Object}
use Rattle.serde_json.proofs.Views.{view-Object}
use Rattle.ref_bundle.specs.Embedding.{with_member}
use Rattle.ref_bundle.specs.Bundle.{definitions_keyword, definitions_of, with_all, member_of}
use Rattle.ref_bundle.specs.inner.Seen.{part_document, numbered_part}
use Rattle.ref_bundle.proofs.Trees.{tree_is}
use Rattle.ref_bundle.proofs.embedding.tree_with.Goals as goal

pub returns : goal.returns
returns c =
    let top = part_document c.args.top.now in
    let parts = c.args.parts.now in
    let tree : view c.in_ok-tree.tree ≡ top.tree = search rules in
    let none : (length parts == 0) ≡ false = search rules in
    let is = tree_is top parts (λ e. true≢false (sym (eq-eqb (length parts) 0 e) ∙ none)) in
    let same =
    ap (λ k. with_member k (view (Object c.in_ok-map.map)) (view c.in_ok-tree.tree)) c.definitions_keyword.ensures.value
    ∙ ap (λ v. with_member (definitions_keyword top.draft) v (view c.in_ok-tree.tree)) (view-Object c.in_ok-map.map ∙ ap object c.in_ok-map.ensures)
    ∙ ap (with_member (definitions_keyword top.draft) (object (with_all (map (λ p. member_of top.draft (numbered_part p)) parts) (definitions_of top)))) tree ∙ sym is in
    record { value = subst (λ t. IfOk c.with_member.result (λ v. view v ≡ t)) same c.with_member.ensures }
