use Rattle.std.proofs.Common.{◌≡◌, ◌++◌, map, drop}
use Rattle.serde_json.specs.View.{view}
use Rattle.ref_index.specs.Listing.{listed_of}
use Rattle.ref_serve.specs.Candidates.{candidates}
use Rattle.ref_serve.specs.inner.Referred.{choice_seen}
use Rattle.ref_serve.proofs.candidates.candidate_list.Given as goal

abbrev pub invariant-loop-place : goal.invariant-loop-place
invariant-loop-place l =
    let choice = choice_seen l.fn.choice in
    map view l.list.items ++ candidates choice (map listed_of (drop l.place-index l.places)) ≡ candidates choice (map listed_of l.places)
