use Rattle.std.proofs.Common.{◌≡◌, None, map, take}
use Rattle.std.specs.List.{find}
use Rattle.ref_findings.specs.Guessed.{has_item_list}
use Rattle.ref_findings.specs.inner.Seen.{place_of}
use Rattle.ref_findings.proofs.guessed.first_item_list.Given as goal

abbrev pub invariant-loop-place : goal.invariant-loop-place
invariant-loop-place l = find has_item_list (map (λ p. place_of p) (take l.place-index l.places)) ≡ None
