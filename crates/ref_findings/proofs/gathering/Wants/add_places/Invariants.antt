use Rattle.std.proofs.Common.{map, flat_map, take}
use Rattle.std.specs.Option.{option_to_list}
use Rattle.ref_definitions.specs.Resources.{own_uri}
use Rattle.ref_findings.specs.Gathered.{wanted_at}
use Rattle.ref_findings.specs.inner.Seen.{place_of}
use Rattle.ref_findings.specs.inner.Wanted.{Grows}
use Rattle.ref_findings.proofs.gathering.Wants.add_places.Given as goal

abbrev pub invariant-loop-place : goal.invariant-loop-place
invariant-loop-place l =
    Grows l.initial.self l.self (flat_map (λ p. option_to_list (own_uri p)) (map place_of (take l.place-index l.places))) (flat_map wanted_at (map place_of (take l.place-index l.places)))
