use Rattle.std.proofs.Common.{◌+◌, map, drop, arith, ap, ◌∙◌}
use Rattle.ref_definitions.specs.Follow.{followed_from}
use Rattle.ref_resolver.specs.Resolving.{resolver_of, world_of}
use Rattle.referencing.specs.Following.{step_of}
use Rattle.referencing.proofs.Stepping.{followed_next, followed_stop, followed_end}
use Rattle.ref_serve.specs.Following.{start_at, place_after}
use Rattle.ref_serve.specs.inner.Steps.{followed_view, placed_at}
use Rattle.ref_serve.proofs.Steps.{place_next, place_end}
use Rattle.ref_serve.proofs.following.all_followed.Goals as goal

pub loop-number-preserved : goal.loop-number-preserved
loop-number-preserved c =
    let l = c.loop-number in
    let w = world_of c.args.start in (
      l.invariant.0 ∙ followed_next w l.number (followed_view l.followed) (followed_view c.in-Ok.next) c.args.steps.now c.index-steps-number.result c.loop-number-test.true c.index-steps-number.is (rw l.invariant.1 at c.in-Ok.ensures.gives),
      c.in-Ok.ensures.world ∙ l.invariant.1,
      rw l.invariant.1 at c.in-Ok.ensures.placed,
      l.invariant.3 ∙ place_next w l.number (placed_at l.followed) (followed_view l.followed) (followed_view c.in-Ok.next) c.args.steps.now c.index-steps-number.result c.loop-number-test.true c.index-steps-number.is (rw l.invariant.1 at c.in-Ok.ensures.gives)
          ∙ ap (λ at. place_after w at (followed_view c.in-Ok.next) (map step_of (drop (l.number + 1) c.args.steps.now))) (rw l.invariant.1 at c.in-Ok.ensures.place),
    )

pub returns-clause-ok : goal.returns-clause-ok
returns-clause-ok c =
    let l = c.loop-number in
    l.invariant.0 ∙ followed_end (world_of c.args.start) l.number (followed_view l.followed) c.args.steps.now (omega arith)

pub returns-clause-place : goal.returns-clause-place
returns-clause-place c =
    let l = c.loop-number in
    l.invariant.3 ∙ place_end (world_of c.args.start) l.number (placed_at l.followed) (followed_view l.followed) c.args.steps.now (omega arith)

pub returns-in-Err-clause-error : goal.returns-in-Err-clause-error
returns-in-Err-clause-error c =
    let l = c.loop-number in
    let w = world_of c.args.start in
    let whole = followed_from w 0 (start_at (resolver_of c.args.start)) (map step_of c.args.steps.now) in
    c.step_stop.ensures whole
    (followed_stop w l.number (followed_view l.followed) c.args.steps.now c.index-steps-number.result c.in-Err.error whole c.loop-number-test.true c.index-steps-number.is l.invariant.0 (rw l.invariant.1 at c.in-Err.ensures.gives))
