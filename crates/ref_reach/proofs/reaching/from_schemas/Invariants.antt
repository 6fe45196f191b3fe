use Rattle.std.proofs.Common.{[], map, take, flat_map}
use Rattle.std.specs.List.{enumerate_from}
use Rattle.ref_reach.specs.Reached.{leads, kinds_at}
use Rattle.ref_reach.specs.Views.{place_of}
use Rattle.ref_reach.specs.inner.Following.{around_of, with_new, Says}
use Rattle.ref_reach.proofs.reaching.from_schemas.Given as goal

abbrev pub invariant-loop-number : goal.invariant-loop-number
invariant-loop-number l =
    let a = around_of l.around in
    let passed = map place_of (take l.number l.schemas.places.items) in
    Says l.state (with_new [] (flat_map (leads a) passed)) (flat_map (kinds_at a) (enumerate_from 0 passed)) 0
