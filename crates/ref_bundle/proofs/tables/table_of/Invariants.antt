use Rattle.std.proofs.Common.{◌≡◌, map, flat_map, filter, take, option_map}
use Rattle.ref_bundle.specs.Needed.{borne_in}
use Rattle.ref_bundle.specs.inner.Seen.{numbered_document}
use Rattle.ref_bundle.specs.inner.Tables.{table_of, entry_under, is_other}
use Rattle.ref_bundle.proofs.tables.table_of.Given as goal

abbrev pub invariant-loop-own : goal.invariant-loop-own
invariant-loop-own l =
    table_of l.entries ≡ flat_map (λ e. map entry_under (filter (is_other (option_map (λ t. table_of t.now) l.last)) (borne_in e))) (map numbered_document (take l.own-index l.owns))
