use Rattle.std.proofs.Common.{◌≤◌, ◌+◌, ◌*◌, map, drop}
use Rattle.serde_json.specs.Data.{items_depth, members_depth}
use Rattle.serde_json.specs.View.{view, items_view, members_view}
use Rattle.ref_yaml.specs.Values.{AreItems, AreMembers}
use Rattle.ref_yaml.proofs.build.Builder.+value.Given as goal

abbrev pub decreases-value : goal.decreases-value
decreases-value l = 3 * l.depth + 1

abbrev pub decreases-member : goal.decreases-member
decreases-member l = 3 * l.depth + 2

abbrev pub decreases-array : goal.decreases-array
decreases-array l = 3 * l.depth + 3

abbrev pub decreases-object : goal.decreases-object
decreases-object l = 3 * l.depth + 3

abbrev pub invariant-array-loop : goal.invariant-array-loop
invariant-array-loop l = record {
  items : AreItems l.self.text.now (drop l.fn.at l.self.events.now) (map view l.items.items) (drop l.at l.self.events.now);
  depth : items_depth (items_view l.items.items) ≤ l.depth;
}

abbrev pub invariant-object-loop : goal.invariant-object-loop
invariant-object-loop l = record {
  members : AreMembers l.self.text.now (drop l.fn.at l.self.events.now) (members_view l.members.entries) (drop l.at l.self.events.now);
  depth : members_depth (members_view l.members.entries) ≤ l.depth;
}
