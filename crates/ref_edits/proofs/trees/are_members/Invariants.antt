use Rattle.std.proofs.Common.{◌≡◌, map, List, ℕ, []}
use Rattle.std.specs.Borrow.{Bor}
use Rattle.serde_json.specs.Data.{Members, object}
use Rattle.serde_json.specs.View.{view, members_view}
use Rattle.ref_edits.specs.Changed as spec
use Rattle.ref_edits.specs.inner.Waiting.{AllAfter}
use Rattle.ref_edits.proofs.trees.are_members.Given as goal

-- of the members of both objects: what is left of those before is below, where all that is waiting is
abbrev pub invariant-loop-key : goal.invariant-loop-key
invariant-loop-key l =
    let w = spec.wanted_of l.wanted in
    (ms : Members) × (ns : Members) × (view l.before ≡ object ms) × (view l.after ≡ object ns) × (spec.count ns ≡ spec.count ms)
    × (AllAfter w l.waiting.items
    → spec.AreBelow w l.pointer ms ns (map (λ (t : Bor (List ℕ)). t.now) l.new_keys.items) (members_view l.key-iterator)
    → AllAfter w l.fn.waiting.items × spec.AreBelow w l.pointer ms ns [] ms)
