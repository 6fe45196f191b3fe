use Rattle.std.proofs.Common.{[], map, take, flat_map}
use Rattle.ref_reach.specs.Reached.{leads, findings_from, count_references}
use Rattle.ref_reach.specs.Views.{place_of}
use Rattle.ref_reach.specs.inner.Following.{around_of, with_new, Says}
use Rattle.ref_reach.proofs.reaching.from_own.Given as goal

abbrev pub invariant-loop-number : goal.invariant-loop-number
invariant-loop-number l =
    let a = around_of l.around in
    let passed = map place_of (take l.number l.around.documents.now.own.items) in
    Says l.state (with_new [] (flat_map (leads a) passed)) (findings_from a 0 passed) (count_references passed)
