use Rattle.std.proofs.Common.{◌≡◌}
use Rattle.serde_json.specs.View.{members_view}
use Rattle.ref_calls.specs.Calls.{unknown_in}
use Rattle.ref_calls.proofs.call.unknown_in.Given as goal

abbrev pub invariant-loop-key : goal.invariant-loop-key
invariant-loop-key l = unknown_in l.call (members_view l.key-iterator) ≡ unknown_in l.call (members_view l.members.entries)
