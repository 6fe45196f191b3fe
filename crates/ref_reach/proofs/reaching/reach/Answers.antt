use Rattle.std.proofs.Common.{◌∙◌, ap, subst, min, map, ◌^◌, ◌-◌}
use Rattle.std.specs.List.{AllZip}
use Rattle.std.proofs.lemmas.Result.{IfOk-weaker}
use Rattle.ref_reach.specs.Reached.{around_descriptions, findings_from, count_references}
use Rattle.ref_reach.specs.Views.{place_of, IsFindingOf}
use Rattle.ref_reach.specs.Knowing.{known_of}
use Rattle.ref_reach.proofs.Following.{findings_of_both, count_of_both}
use Rattle.ref_reach.proofs.reaching.reach.Goals as goal

pub returns-clause-places : goal.returns-clause-places
returns-clause-places c =
    let known = known_of c.args.documents.now in
    IfOk-weaker c.into_closed.result _ _ (λ r closed. closed.places)
    (c.into_closed.ensures (findings_from (around_descriptions known) 0 known.own) (count_references known.own) c.in_ok-from_own.ensures)

pub returns-clause-findings : goal.returns-clause-findings
returns-clause-findings c =
    let known = known_of c.args.documents.now in
    IfOk-weaker c.into_closed.result _ _
    (λ r closed. subst (AllZip IsFindingOf r.findings.items) (findings_of_both (around_descriptions known) known.own (map place_of r.places.items)) closed.found)
    (c.into_closed.ensures (findings_from (around_descriptions known) 0 known.own) (count_references known.own) c.in_ok-from_own.ensures)

pub returns-clause-references : goal.returns-clause-references
returns-clause-references c =
    let known = known_of c.args.documents.now in
    IfOk-weaker c.into_closed.result _ _
    (λ r closed. closed.counted ∙ ap (λ k. min k (2 ^ 64 - 1)) (count_of_both known.own (map place_of r.places.items)))
    (c.into_closed.ensures (findings_from (around_descriptions known) 0 known.own) (count_references known.own) c.in_ok-from_own.ensures)
