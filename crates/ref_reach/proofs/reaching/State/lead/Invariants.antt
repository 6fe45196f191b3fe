use Rattle.std.proofs.Common.{ℕ, List, ◌++◌, map, flat_map}
use Rattle.ref_descriptions.specs.Views.{reference_of}
use Rattle.ref_reach.specs.Places.{Place}
use Rattle.ref_reach.specs.Reached.{Finding, place_in, kind_in}
use Rattle.ref_reach.specs.Views.{place_of}
use Rattle.ref_reach.specs.inner.Following.{around_of, with_new, Says}
use Rattle.ref_reach.proofs.reaching.State.lead.Given as goal

abbrev pub invariant-loop-reference : goal.invariant-loop-reference
invariant-loop-reference l =
    let a = around_of l.around in
    let p = place_of l.place in
    let passed = map reference_of l.yielded in
    (places : List Place) (list : List Finding) (count : ℕ) → Says l.initial.self places list count
    → Says l.self (with_new places (flat_map (λ r. place_in (a.outcome p r)) passed)) (list ++ flat_map (λ r. kind_in l.number r (a.outcome p r)) passed) count
