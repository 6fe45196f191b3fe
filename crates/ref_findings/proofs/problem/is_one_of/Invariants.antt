use Rattle.std.proofs.Common.{◌≡◌, map, take, bytes_eq}
use Rattle.std.specs.List.{list_any}
use Rattle.ref_draft.specs.Schema.{trimmed_text}
use Rattle.ref_findings.proofs.problem.is_one_of.Given as goal

abbrev pub invariant-loop-known : goal.invariant-loop-known
invariant-loop-known l = l.any ≡ list_any (λ known. bytes_eq (trimmed_text known) l.uri) (map (λ u. u.now) (take l.known-index l.uris))
