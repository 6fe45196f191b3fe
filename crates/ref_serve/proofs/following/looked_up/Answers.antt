use Rattle.std.proofs.Common.{Some, option_map, refl}
use Rattle.ref_resolver.specs.Resolving.{resolver_of, world_of}
use Rattle.ref_serve.specs.inner.Seen.{answer_at, place_at}
use Rattle.ref_serve.specs.inner.Steps.{followed_view}
use Rattle.ref_serve.proofs.Steps.{found_to}
use Rattle.ref_serve.proofs.following.looked_up.Goals as goal

pub returns-clause-ok : goal.returns-clause-ok
returns-clause-ok c =
    let w = world_of c.args.resolver.now in
    found_to w (place_at w (resolver_of c.args.resolver.now) (option_map (λ r. r.now) c.args.reference)) (answer_at w (resolver_of c.args.resolver.now) (option_map (λ r. r.now) c.args.reference)) c.in_ok-found.found (resolver_of c.in_ok-found.resolver)
    (followed_view (record { last = Some c.in_ok-found.found; resolver = c.in_ok-found.resolver })) c.in_ok-found.ensures.ok refl
