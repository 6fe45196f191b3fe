use Rattle.std.proofs.Common.{◌≡◌, List, ◌++◌, take, map}
use Rattle.serde_json.specs.View.{view, items_view, members_view}
use Rattle.serde_json.proofs.Views.{Entry}
use Rattle.ref_findings.specs.Mending.{items_with_nulls, members_with_nulls}
use Rattle.ref_findings.specs.inner.Seen.{lent_path}
use Rattle.ref_findings.proofs.mending.+with_nulls.Given as goal

abbrev pub invariant-items_with_nulls-loop-index : goal.invariant-items_with_nulls-loop-index
invariant-items_with_nulls-loop-index l = items_view l.list.items ≡ items_with_nulls (map lent_path l.paths) 0 (items_view (take l.index l.items.items))

abbrev pub invariant-members_with_nulls-loop-key : goal.invariant-members_with_nulls-loop-key
invariant-members_with_nulls-loop-key l =
    (done : List Entry) × (l.members.entries ≡ done ++ l.key-iterator) × (members_view l.copies.entries ≡ members_with_nulls (map lent_path l.paths) (members_view done))
