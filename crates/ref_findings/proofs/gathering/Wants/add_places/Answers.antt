use Rattle.std.proofs.Common.{List, ℕ}
use Rattle.std.specs.Option.{option_to_list}
use Rattle.ref_definitions.specs.Places.{Place}
use Rattle.ref_definitions.specs.Resources.{own_uri}
use Rattle.ref_findings.specs.Gathered.{wanted_at}
use Rattle.ref_findings.specs.inner.Seen.{place_of}
use Rattle.ref_findings.proofs.Lists.{joined_at}
use Rattle.ref_findings.proofs.Retrieving.{grown_so}
use Rattle.ref_findings.proofs.gathering.Wants.add_places.Goals as goal

pub loop-place-preserved : goal.loop-place-preserved
loop-place-preserved c =
    let l = c.loop-place in
    let p = c.place-item.result in
    let places = c.args.places.now in
    let own : Place → List (List ℕ) = λ q. option_to_list (own_uri q) in
    grown_so c.args.self.now l.self c.add.new.self _ _ _ _ _ _ l.invariant c.in_ok-add.ensures
    (joined_at own place_of places l.place-index p c.loop-place-test.true c.place-item.is) (joined_at wanted_at place_of places l.place-index p c.loop-place-test.true c.place-item.is)
