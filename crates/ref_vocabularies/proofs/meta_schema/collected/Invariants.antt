use Rattle.std.proofs.Common.{◌≡◌, []}
use Rattle.serde_json.specs.View.{members_view}
use Rattle.ref_vocabularies.specs.Vocabularies.{of_known, collected_set}
use Rattle.ref_vocabularies.proofs.meta_schema.collected.Given as goal

abbrev pub invariant-loop-key : goal.invariant-loop-key
invariant-loop-key l = collected_set (of_known []) (members_view l.members.entries) ≡ collected_set l.set (members_view l.key-iterator)
