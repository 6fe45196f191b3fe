use Rattle.std.proofs.Common.{◌≡◌, map, string_bytes, true, false, None, IsTrue, arith}
use Rattle.std.proofs.lemmas.Grind.{common_steps}
use Rattle.serde_json.specs.Data.{array, object}
use Rattle.serde_json.specs.Find.{get_member}
use Rattle.serde_json.specs.View.{view, items_of, members_view}
use Rattle.ref_yaml.specs.Values.{fits, no_item, no_member}
use Rattle.ref_yaml.proofs.Trees.{is_none, scalar_is, one_more_depth, put_depth, list_is, object_is, item_more, member_more}
use Rattle.ref_yaml.proofs.build.Builder.+value.Goals as goal

pub array-loop-init : goal.array-loop-init
array-loop-init t c = record {
  items = rw c.new-items.ensures.items (no_item _);
  depth = rw c.new-items.ensures.items (omega arith);
}

pub array-loop-preserved : goal.array-loop-preserved
array-loop-preserved t c = record {
  items = item_more c.args.self.now.text.now _ _ _ _ _ _ c.in_ok-push.ensures.value c.loop.invariant.items c.in_ok-value.ensures.tree;
  depth = rw c.in_ok-push.ensures.value (one_more_depth c.args.depth _ _ c.loop.invariant.depth c.in_ok-value.ensures.depth);
}

pub array-returns-clause-tree : goal.array-returns-clause-tree
array-returns-clause-tree t c plain begins =
    let end = c.in_ok-end.ensures.value in
    let ds = map view c.loop.items.items in
    let f : IsTrue (fits c.args.begin.now.tag (array (items_of ds))) = grind (arith, c.fits_array.ensures.value (items_of ds)) in
    list_is c.args.self.now.text.now c.args.begin.now end.0 _ _ _ ds _ c.array_of.ensures.value plain begins end.1 f c.loop.invariant.items end.2

pub member-returns-clause-tree : goal.member-returns-clause-tree
member-returns-clause-tree t c es found =
    let new : get_member (string_bytes c.in_ok-name.name) (members_view c.args.members.now.entries) ≡ None = is_none _ (grind (arith, common_steps)) in
    let marked : c.in_ok-key.key.is_key ≡ true = grind (arith, common_steps) in
    member_more c.args.self.now.text.now es _ _ _ _ _ c.in_ok-key.key (string_bytes c.in_ok-name.name) (view c.in_ok-value.value) c.in_ok-insert.ensures.value c.in_ok-key.ensures.value found
    marked c.in_ok-name.ensures.value new c.in_ok-value.ensures.tree

pub member-returns-clause-depth : goal.member-returns-clause-depth
member-returns-clause-depth t c h = rw c.in_ok-insert.ensures.value (put_depth c.args.depth _ _ _ h c.in_ok-value.ensures.depth)

pub object-loop-init : goal.object-loop-init
object-loop-init t c = record {
  members = rw c.new-members.ensures.empty (no_member _);
  depth = rw c.new-members.ensures.empty (omega arith);
}

pub object-returns-clause-tree : goal.object-returns-clause-tree
object-returns-clause-tree t c plain begins =
    let end = c.in_ok-end.ensures.value in
    let ms = members_view c.loop.members.entries in
    let f : IsTrue (fits c.args.begin.now.tag (object ms)) = grind (arith, c.fits_object.ensures.value ms) in
    object_is c.args.self.now.text.now c.args.begin.now end.0 _ _ _ ms _ c.object_of.ensures.value plain begins end.1 f c.loop.invariant.members end.2

pub value-returns-in_default-clause-tree : goal.value-returns-in_default-clause-tree
value-returns-in_default-clause-tree t c =
    let plain : c.in_ok-event.event.is_key ≡ false = grind (arith, common_steps) in
    scalar_is c.args.self.now.text.now c.in_ok-event.event _ _ c.scalar.result c.scalar.ensures.value c.scalar.ensures.fits plain c.in_ok-event.ensures.value
