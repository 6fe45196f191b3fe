use Rattle.std.proofs.Common.{◌≡◌, ◌∷◌, ◌++◌, [], ap, sym, ◌∙◌, map, flat_map, string_bytes, rules, append-nil}
use Rattle.std.specs.Vec.Iter.{into_iter_items}
use Rattle.std.proofs.lemmas.List.{nil_from_length}
use Rattle.serde_json.specs.View.{view}
use Rattle.ref_findings.specs.Held.{held_source}
use Rattle.ref_calls.specs.Given.{given_of}
use Rattle.ref_serve.specs.Mending.{document_of}
use Rattle.ref_serve.proofs.Passing.{one_held}
use Rattle.ref_serve.proofs.mending.add_held.Goals as goal

pub loop-document-preserved : goal.loop-document-preserved
loop-document-preserved c =
    let l = c.loop-document in
    let rest = into_iter_items c.next.new.self in
    let held = c.in-Some.document in
    let text = c.in_ok-text.text in
    let all = map given_of c.args.documents.now.items ++ flat_map document_of (map held_source c.args.held.items) in
    let steps : into_iter_items l.document-iterator ≡ held ∷ rest = c.in-Some.ensures.steps.0 in
    let same : string_bytes text ≡ (held_source held).uri = search rules in (
      ap (λ ds. map given_of ds ++ flat_map document_of (map held_source rest)) c.in_ok-push.ensures.items
          ∙ one_held l.documents.items (text, held.value) held rest all (ap (λ u. (u, view held.value)) same)
          (ap (λ hs. map given_of l.documents.items ++ flat_map document_of (map held_source hs)) (sym steps) ∙ l.invariant.0),
      search rules,
    )

pub returns : goal.returns
returns c =
    let l = c.loop-document in
    let none : into_iter_items l.document-iterator ≡ [] = nil_from_length (into_iter_items l.document-iterator) (sym l.invariant.1 ∙ c.in-None.ensures.steps.0) in
    sym (append-nil (map given_of l.documents.items)) ∙ ap (λ hs. map given_of l.documents.items ++ flat_map document_of (map held_source hs)) (sym none) ∙ l.invariant.0
