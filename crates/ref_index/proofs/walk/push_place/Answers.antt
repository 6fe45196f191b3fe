use Rattle.std.proofs.Common.{ap}
use Rattle.ref_index.specs.Visit.{path_of, place_with, value_of}
use Rattle.ref_index.specs.declared.queue.Visit.{Visit}
use Rattle.ref_index.proofs.Listing.{on_ok}
use Rattle.ref_index.proofs.walk.push_place.Goals as goal

pub returns : goal.returns
returns c =
    let v : Visit = record { value = c.args.value; draft = c.args.draft; outer = c.in_ok-outer.outer } in
    on_ok c.push_visit.result (λ grown. (v, grown, ap (place_with (path_of c.args.value) (value_of c.args.value) c.args.draft) c.in_ok-outer.ensures.cases)) c.push_visit.ensures
