use Rattle.std.proofs.Common.{map, flat_map, take, subst, sym, arith}
use Rattle.std.specs.List.{AllZip}
use Rattle.std.proofs.lemmas.List.{take_all}
use Rattle.ref_definitions.specs.Places.{Place}
use Rattle.ref_findings.specs.Entries.{IsFindingOf}
use Rattle.ref_findings.specs.Unmet.{unmet_at}
use Rattle.ref_findings.specs.inner.Nulled.{is_met}
use Rattle.ref_findings.specs.inner.Seen.{place_of}
use Rattle.ref_findings.proofs.Lists.{joined_at}
use Rattle.ref_findings.proofs.unready.unmet_in.Goals as goal

pub loop-place-preserved : goal.loop-place-preserved
loop-place-preserved c = λ uris met.
    let l = c.loop-place in
    let p = c.place-item.result in
    let places = c.args.places.now in
    let f = λ (q : Place). unmet_at (is_met uris) (c.args.source, q) in
    subst (AllZip IsFindingOf c.add_place.new.list.items) (sym (joined_at f place_of places l.place-index p c.loop-place-test.true c.place-item.is))
    (c.in_ok-add_place.ensures uris met (flat_map f (map place_of (take l.place-index places))) (l.invariant uris met))

pub returns : goal.returns
returns c = λ uris met.
    let l = c.loop-place in
    let places = c.args.places.now in
    subst (λ ps. AllZip IsFindingOf l.list.items (flat_map (λ (q : Place). unmet_at (is_met uris) (c.args.source, q)) (map place_of ps))) (take_all l.place-index places (omega (arith, c.loop-place-test.false))) (l.invariant uris met)
