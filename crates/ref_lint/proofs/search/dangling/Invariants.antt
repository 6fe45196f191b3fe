use Rattle.std.proofs.Common.{◌≡◌, ◌++◌, map, flat_map, length}
use Rattle.std.specs.List.{AllZip}
use Rattle.std.specs.Vec.Iter.{into_iter_items, into_iter_len}
use Rattle.ref_index.specs.Listing.{listed_of}
use Rattle.ref_lint.specs.Entries.{IsEntryOf}
use Rattle.ref_lint.specs.Dangling.{dangling_at}
use Rattle.ref_lint.proofs.search.dangling.Given as goal

abbrev pub invariant-loop-place : goal.invariant-loop-place
invariant-loop-place l =
    AllZip IsEntryOf l.list.items (flat_map (dangling_at l.registry) (map listed_of l.yielded))
    × (l.yielded ++ into_iter_items l.place-iterator ≡ into_iter_items l.initial.place-iterator)
    × (into_iter_len l.place-iterator ≡ length (into_iter_items l.place-iterator))
