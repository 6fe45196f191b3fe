use Rattle.std.proofs.Common.{◌≡◌, ◌∷◌, [], map, flat_map, sym, ◌∙◌, subst, rules}
use Rattle.std.specs.Vec.Iter.{into_iter_items}
use Rattle.std.proofs.lemmas.List.{nil_from_length}
use Rattle.serde_json.specs.View.{view}
use Rattle.ref_serve.specs.Mending.{objects_of}
use Rattle.ref_serve.proofs.Passing.{AreTold, one_told, all_told}
use Rattle.ref_serve.proofs.mending.faults_in.Goals as goal

pub loop-list-preserved : goal.loop-list-preserved
loop-list-preserved c =
    let rest = into_iter_items c.next.new.self in
    let list = c.in-Some.list in
    let done = map view c.loop-list.faults.items in
    let steps : into_iter_items c.loop-list.list-iterator ≡ list ∷ rest = c.in-Some.ensures.steps.0 in (
      λ fss says. one_told list rest done (map view c.push_findings.new.faults.items) (flat_map objects_of fss)
          (subst (λ left. AreTold left done (flat_map objects_of fss)) steps (c.loop-list.invariant.0 fss says)) c.in_ok-push_findings.ensures,
      search rules,
    )

pub returns : goal.returns
returns c = λ fss says.
    let done = map view c.loop-list.faults.items in
    let none : into_iter_items c.loop-list.list-iterator ≡ [] = nil_from_length (into_iter_items c.loop-list.list-iterator) (sym c.loop-list.invariant.1 ∙ c.in-None.ensures.steps.0) in
    all_told done (flat_map objects_of fss) (subst (λ left. AreTold left done (flat_map objects_of fss)) none (c.loop-list.invariant.0 fss says))
