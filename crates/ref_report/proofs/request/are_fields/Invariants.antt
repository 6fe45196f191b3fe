use Rattle.std.proofs.Common.{◌≡◌}
use Rattle.serde_json.specs.View.{members_view}
use Rattle.ref_report.specs.Request.{are_fields}
use Rattle.ref_report.proofs.request.are_fields.Given as goal

abbrev pub invariant-loop-key : goal.invariant-loop-key
invariant-loop-key l = are_fields (members_view l.key-iterator) ≡ are_fields (members_view l.members.entries)
