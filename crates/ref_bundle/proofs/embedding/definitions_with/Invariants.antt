use Rattle.std.proofs.Common.{◌≡◌, map, take}
use Rattle.serde_json.specs.View.{members_view}
use Rattle.ref_bundle.specs.Bundle.{with_all, member_of, definitions_of}
use Rattle.ref_bundle.specs.inner.Seen.{part_document, numbered_part}
use Rattle.ref_bundle.proofs.embedding.definitions_with.Given as goal

abbrev pub invariant-loop-part : goal.invariant-loop-part
invariant-loop-part l =
    members_view l.map.entries ≡ with_all (map (λ p. member_of l.top.draft (numbered_part p)) (take l.part-index l.parts)) (definitions_of (part_document l.top))
