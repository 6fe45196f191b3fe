use Rattle.std.proofs.Common.{map, arith}
use Rattle.std.proofs.lemmas.Grind.{common_steps}
use Rattle.serde_json.specs.View.{view, members_view}
use Rattle.ref_draft.specs.Keywords.{holding_of}
use Rattle.ref_draft.specs.Views.{walked_child}
use Rattle.ref_draft.proofs.Order.{ordered_object}
use Rattle.ref_draft.proofs.Standing.{are_found, members_in_is, step}
use Rattle.ref_draft.proofs.spec.walk.children.Goals as goal

pub loop-keyword-init : goal.loop-keyword-init
loop-keyword-init c =
    let entries = c.into_iter-keyword-iterator.ensures.into_iter_gives in (
      rw (c.new-children.ensures.items, entries.0, ← c.in-Some.ensures),
      rw c.new-children.ensures.items tt,
      rw (members_in_is (view c.args.contents.now) (members_view c.in-Some.schema.now.entries) c.in-Some.ensures, entries.0) (are_found c.in-Some.schema.now.entries entries.6),
      ordered_object (view c.args.contents.now) c.in-Some.schema.now.entries c.in-Some.ensures entries.5,
    )

pub loop-keyword-preserved : goal.loop-keyword-preserved
loop-keyword-preserved c =
    let found = rw c.in-Some-2.ensures.steps at c.loop-keyword.invariant.2 in (
      grind (arith, common_steps),
      step c.args.draft (view c.args.contents.now) (holding_of c.args.draft c.as_str.result.now) c.as_str.result.now (view c.in-Some-2.value.now) (map walked_child c.loop-keyword.children.items)
          (map walked_child c.push_held.new.children.items) c.loop-keyword.invariant.1 (rw c.as_str.ensures.value found.0) c.push_held.ensures.unique c.in_ok-push_held.ensures.adds,
      found.1,
      c.loop-keyword.invariant.3,
    )
