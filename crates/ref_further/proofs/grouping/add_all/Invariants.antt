use Rattle.std.proofs.Common.{◌≡◌, ℕ, ◌<◌, ◌++◌, map, flat_map, take, length}
use Rattle.ref_reach.specs.Views.{place_of}
use Rattle.ref_bundle.specs.Needed.{further_in}
use Rattle.ref_bundle.specs.Saying.{further_of}
use Rattle.ref_further.specs.Further.{seen_in}
use Rattle.ref_further.proofs.grouping.add_all.Given as goal

abbrev pub invariant-loop-place : goal.invariant-loop-place
invariant-loop-place l =
    (length l.groups.items ≡ length l.initial.groups.items)
    × ((n : ℕ) → n < length l.initial.groups.items
    → further_in (further_of l.groups.items) n ≡ further_in (further_of l.initial.groups.items) n ++ flat_map (seen_in n) (map place_of (take l.place-index l.places)))
