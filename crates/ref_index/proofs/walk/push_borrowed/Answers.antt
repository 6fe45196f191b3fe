use Rattle.ref_index.proofs.Walking.{one_more_came}
use Rattle.ref_index.proofs.walk.push_borrowed.Goals as goal

pub loop-child-preserved : goal.loop-child-preserved
loop-child-preserved c =
    one_more_came c.args.path.now c.args.base.now.value c.loop-child.yielded c.in-Some.child _ c.loop-child.queue.items c.push_place.new.queue.items _ c.loop-child.invariant c.in_ok-below.ensures.value c.in_ok-push_place.ensures
