use Rattle.std.proofs.Common.{◌≡◌, drop}
use Rattle.serde_json.specs.View.{items_view}
use Rattle.ref_calls.specs.Calls.{each_item}
use Rattle.ref_calls.specs.Scopes.{scope_uri}
use Rattle.ref_calls.proofs.Further.{in_front}
use Rattle.ref_calls.proofs.scope.uris_in.Given as goal

abbrev pub invariant-loop-index : goal.invariant-loop-index
invariant-loop-index l =
    in_front l.uris.items (each_item scope_uri l.index (items_view (drop l.index l.items))) ≡ each_item scope_uri 0 (items_view l.items)
