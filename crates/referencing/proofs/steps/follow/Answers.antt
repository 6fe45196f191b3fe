use Rattle.std.proofs.Common.{map, arith, ◌∙◌}
use Rattle.ref_definitions.specs.Follow.{followed_steps}
use Rattle.ref_resolver.specs.Resolving.{resolver_of}
use Rattle.referencing.specs.Following.{followed_of, step_of}
use Rattle.referencing.proofs.Stepping.{followed_start, followed_next, followed_stop, followed_end, started, reached_next, nowhere_yet}
use Rattle.referencing.proofs.steps.follow.Goals as goal

pub loop-number-init : goal.loop-number-init
loop-number-init c = (followed_start c.args.registry.now c.args.base (resolver_of c.in-Ok.resolver) c.args.steps.now c.in-Ok.ensures.resolver, c.in-Ok.ensures.world ∙ c.layers.ensures.value, started c.args.registry.now c.args.base (resolver_of c.in-Ok.resolver) (map step_of c.args.steps.now) c.in-Ok.ensures.resolver)

pub returns-in-Err-stepped-clause-gives : goal.returns-in-Err-stepped-clause-gives
returns-in-Err-stepped-clause-gives c =
    let l = c.loop-number in
    followed_stop c.args.registry.now l.number (followed_of l.followed) c.args.steps.now c.index-steps-number.result c.in-Err-stepped.error (followed_steps c.args.registry.now c.args.base (map step_of c.args.steps.now))
    c.loop-number-test.true c.index-steps-number.is l.invariant.0 (rw l.invariant.1 at c.in-Err-stepped.ensures.gives)

pub loop-number-preserved : goal.loop-number-preserved
loop-number-preserved c =
    let l = c.loop-number in
    let on = followed_next c.args.registry.now l.number (followed_of l.followed) (followed_of c.in-Ok-stepped.next) c.args.steps.now c.index-steps-number.result
    c.loop-number-test.true c.index-steps-number.is (rw l.invariant.1 at c.in-Ok-stepped.ensures.gives) in (
      l.invariant.0 ∙ on,
      c.in-Ok-stepped.ensures.world ∙ l.invariant.1,
      reached_next c.args.registry.now c.args.base l.number (followed_of l.followed) (followed_of c.in-Ok-stepped.next) c.args.steps.now c.index-steps-number.result
          c.loop-number-test.true c.index-steps-number.is l.invariant.2 (rw l.invariant.1 at c.in-Ok-stepped.ensures.gives),
    )

pub returns-in-Err-stepped-clause-reached : goal.returns-in-Err-stepped-clause-reached
returns-in-Err-stepped-clause-reached c = (followed_of c.loop-number.followed, c.loop-number.invariant.2)

pub returns-in-Err-clause-reached : goal.returns-in-Err-clause-reached
returns-in-Err-clause-reached c = nowhere_yet c.args.registry.now c.args.base (map step_of c.args.steps.now)

pub returns-clause-gives : goal.returns-clause-gives
returns-clause-gives c =
    let l = c.loop-number in
    l.invariant.0 ∙ followed_end c.args.registry.now l.number (followed_of l.followed) c.args.steps.now (omega arith)
