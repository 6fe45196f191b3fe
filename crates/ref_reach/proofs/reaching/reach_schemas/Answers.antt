use Rattle.std.proofs.Common.{◌∙◌, map, flat_map}
use Rattle.std.specs.List.{enumerate_from}
use Rattle.std.proofs.lemmas.Result.{IfOk-weaker}
use Rattle.ref_reach.specs.Reached.{around_schemas, kinds_at, count_references}
use Rattle.ref_reach.specs.Views.{place_of}
use Rattle.ref_reach.specs.Knowing.{known_of}
use Rattle.ref_reach.proofs.Following.{count_of_none}
use Rattle.ref_reach.proofs.reaching.reach_schemas.Goals as goal

pub returns-clause-places : goal.returns-clause-places
returns-clause-places c =
    let known = known_of c.args.documents.now in
    let own = map place_of c.args.schemas.now.places.items in
    IfOk-weaker c.into_closed.result _ _ (λ r closed. closed.places)
    (c.into_closed.ensures (flat_map (kinds_at (around_schemas known own)) (enumerate_from 0 own)) 0 c.in_ok-from_schemas.ensures)

pub returns-clause-findings : goal.returns-clause-findings
returns-clause-findings c =
    let known = known_of c.args.documents.now in
    let own = map place_of c.args.schemas.now.places.items in
    IfOk-weaker c.into_closed.result _ _ (λ r closed. closed.found)
    (c.into_closed.ensures (flat_map (kinds_at (around_schemas known own)) (enumerate_from 0 own)) 0 c.in_ok-from_schemas.ensures)

pub returns-clause-references : goal.returns-clause-references
returns-clause-references c =
    let known = known_of c.args.documents.now in
    let own = map place_of c.args.schemas.now.places.items in
    IfOk-weaker c.into_closed.result _ _ (λ r closed. closed.counted ∙ count_of_none (count_references (map place_of r.places.items)))
    (c.into_closed.ensures (flat_map (kinds_at (around_schemas known own)) (enumerate_from 0 own)) 0 c.in_ok-from_schemas.ensures)
