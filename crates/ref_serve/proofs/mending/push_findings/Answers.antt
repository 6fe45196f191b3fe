use Rattle.std.proofs.Common.{◌≡◌, ◌∷◌, ◌++◌, [], map, sym, ◌∙◌, subst, rules}
use Rattle.std.specs.Vec.Iter.{into_iter_items}
use Rattle.std.proofs.lemmas.List.{nil_from_length}
use Rattle.serde_json.specs.View.{view}
use Rattle.ref_serve.proofs.FaultyList.{IsLeft, objects_of, one_finding_more, all_findings}
use Rattle.ref_serve.proofs.mending.push_findings.Goals as goal

pub loop-finding-preserved : goal.loop-finding-preserved
loop-finding-preserved c =
    let rest = into_iter_items c.next.new.self in
    let finding = c.in-Some.finding in
    let done = map view c.loop-finding.faults.items in
    let before = map view c.args.faults.now.items in
    let steps : into_iter_items c.loop-finding.finding-iterator ≡ finding ∷ rest = c.in-Some.ensures.steps.0 in (
      λ fs says. one_finding_more finding rest done (map view c.push_finding.new.list.items) (before ++ objects_of fs)
          (subst (λ left. IsLeft left done (before ++ objects_of fs)) steps (c.loop-finding.invariant.0 fs says)) c.in_ok-push_finding.ensures,
      search rules,
    )

pub returns : goal.returns
returns c = λ fs says.
    let done = map view c.loop-finding.faults.items in
    let all = map view c.args.faults.now.items ++ objects_of fs in
    let none : into_iter_items c.loop-finding.finding-iterator ≡ [] = nil_from_length (into_iter_items c.loop-finding.finding-iterator) (sym c.loop-finding.invariant.1 ∙ c.in-None.ensures.steps.0) in
    all_findings done all (subst (λ left. IsLeft left done all) none (c.loop-finding.invariant.0 fs says))
