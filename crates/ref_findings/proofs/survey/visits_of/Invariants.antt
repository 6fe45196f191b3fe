use Rattle.std.proofs.Common.{map, take}
use Rattle.ref_index.specs.Listed.{AreNoted}
use Rattle.ref_index.specs.Visit.{place_of as visited_place}
use Rattle.ref_findings.specs.inner.Seen.{place_of}
use Rattle.ref_findings.proofs.survey.visits_of.Given as goal

abbrev pub invariant-loop-place : goal.invariant-loop-place
invariant-loop-place l = AreNoted (map place_of (take l.place-index l.places)) (map visited_place l.visits.items)
