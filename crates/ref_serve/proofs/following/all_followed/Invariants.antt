use Rattle.std.proofs.Common.{◌≡◌, None, map, drop}
use Rattle.ref_definitions.specs.Follow.{followed_from}
use Rattle.ref_resolver.specs.Resolving.{resolver_of, world_of}
use Rattle.referencing.specs.Following.{step_of}
use Rattle.ref_serve.specs.Following.{start_at, place_after}
use Rattle.ref_serve.specs.inner.Steps.{followed_view, IsPlaced, placed_at}
use Rattle.ref_serve.proofs.following.all_followed.Given as goal

abbrev pub invariant-loop-number : goal.invariant-loop-number
invariant-loop-number l =
    let w = world_of l.fn.start in
    (followed_from w 0 (start_at (resolver_of l.fn.start)) (map step_of l.steps) ≡ followed_from w l.number (followed_view l.followed) (map step_of (drop l.number l.steps)))
    × (world_of l.followed.resolver ≡ w) × IsPlaced w l.followed
    × (place_after w None (start_at (resolver_of l.fn.start)) (map step_of l.steps) ≡ place_after w (placed_at l.followed) (followed_view l.followed) (map step_of (drop l.number l.steps)))
