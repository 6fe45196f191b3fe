use Rattle.std.proofs.Common.{◌≡◌, map, take, drop, Ok}
use Rattle.ref_definitions.specs.Follow.{followed_steps, followed_from}
use Rattle.ref_resolver.specs.Resolving.{world_of}
use Rattle.referencing.specs.Following.{step_of, followed_of}
use Rattle.referencing.proofs.steps.follow.Given as goal

abbrev pub invariant-loop-number : goal.invariant-loop-number
invariant-loop-number l =
    (followed_steps l.registry l.fn.base (map step_of l.steps) ≡ followed_from l.registry l.number (followed_of l.followed) (map step_of (drop l.number l.steps)))
    × (world_of l.followed.resolver ≡ l.registry)
    × (followed_steps l.registry l.fn.base (take l.number (map step_of l.steps)) ≡ Ok (followed_of l.followed))
