use Rattle.std.proofs.Common.{◌≡◌, ◌∷◌, [], map, sym, ap, ◌∙◌, subst, rules}
use Rattle.std.specs.Vec.Iter.{into_iter_items}
use Rattle.std.proofs.lemmas.List.{nil_from_length}
use Rattle.serde_json.specs.View.{view}
use Rattle.serde_json.proofs.Views.{view-Array}
use Rattle.ref_findings.specs.Entries.{source_of}
use Rattle.ref_findings.specs.Findings.{findings}
use Rattle.ref_calls.specs.Objects.{list_of}
use Rattle.ref_serve.proofs.FaultyList.{IsLeft, objects_of, one_finding_more, all_findings}
use Rattle.ref_serve.proofs.faults.faults_in.Goals as goal

pub loop-finding-preserved : goal.loop-finding-preserved
loop-finding-preserved c =
    let rest = into_iter_items c.next.new.self in
    let finding = c.in-Some.finding in
    let done = map view c.loop-finding.list.items in
    let all = objects_of (findings c.args.draft (map source_of c.args.sources.now) (map source_of c.args.held.now)) in
    let steps : into_iter_items c.loop-finding.finding-iterator ≡ finding ∷ rest = c.in-Some.ensures.steps.0 in (
      one_finding_more finding rest done (map view c.push_finding.new.list.items) all (subst (λ fs. IsLeft fs done all) steps c.loop-finding.invariant.0) c.in_ok-push_finding.ensures,
      search rules,
    )

pub returns : goal.returns
returns c =
    let done = map view c.loop-finding.list.items in
    let all = objects_of (findings c.args.draft (map source_of c.args.sources.now) (map source_of c.args.held.now)) in
    let none : into_iter_items c.loop-finding.finding-iterator ≡ [] = nil_from_length (into_iter_items c.loop-finding.finding-iterator) (sym c.loop-finding.invariant.1 ∙ c.in-None.ensures.steps.0) in
    view-Array c.loop-finding.list ∙ ap list_of (all_findings done all (subst (λ fs. IsLeft fs done all) none c.loop-finding.invariant.0))
