use Rattle.std.proofs.Common.{◌≡◌, [], Err, sym, subst, rules}
use Rattle.ref_error.specs.Retrieving.{trees_of}
use Rattle.ref_serve.specs.inner.Mended.{world_above}
use Rattle.ref_serve.specs.inner.Openings.{opening_view, GivesPrepared}
use Rattle.ref_serve.proofs.OpeningReads.{prepared_strictly, prepared_seen, gives_unprepared}
use Rattle.ref_serve.proofs.opening.prepared_of.Goals as goal

pub returns-then-not-wanted : goal.returns-then-not-wanted
returns-then-not-wanted c = prepared_strictly (opening_view c.args.wanted) (world_above c.args.above) (search rules)

pub returns-in_err-made : goal.returns-in_err-made
returns-in_err-made c =
    let o = opening_view c.args.wanted in
    let parents = world_above c.args.above in
    let stop = c.in_err-made.field-0.0 in
    let same : c.from_residual.result ≡ Err stop = search rules in
    subst (GivesPrepared o parents) (sym same) (gives_unprepared o parents stop (search rules) c.in_err-made.ensures)

pub returns : goal.returns
returns c =
    let o = opening_view c.args.wanted in
    let none : trees_of c.in_ok-remote.remote ≡ [] = search rules in
    prepared_seen o (world_above c.args.above) c.in_ok-made.made (trees_of c.in_ok-remote.remote) (search rules) none c.in_ok-made.ensures
