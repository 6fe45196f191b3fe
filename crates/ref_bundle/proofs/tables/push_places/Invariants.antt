use Rattle.std.proofs.Common.{◌≡◌, ◌++◌, map, flat_map, filter, take, option_map}
use Rattle.ref_bundle.specs.Saying.{seen_spot}
use Rattle.ref_bundle.specs.inner.Tables.{table_of, entry_under, is_other, borne_at}
use Rattle.ref_bundle.proofs.tables.push_places.Given as goal

abbrev pub invariant-loop-spot : goal.invariant-loop-spot
invariant-loop-spot l =
    table_of l.entries ≡ table_of l.initial.entries ++ flat_map (λ s. map entry_under (filter (is_other (option_map (λ t. table_of t.now) l.last)) (borne_at s))) (map seen_spot (take l.spot-index l.places))
