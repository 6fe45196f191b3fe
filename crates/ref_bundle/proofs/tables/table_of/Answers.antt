use Rattle.std.proofs.Common.{map, flat_map, filter, option_map, ap, ◌∙◌, arith}
use Rattle.ref_bundle.specs.Needed.{borne_in}
use Rattle.ref_bundle.specs.inner.Seen.{numbered_document}
use Rattle.ref_bundle.specs.inner.Tables.{table_of, entry_under, is_other}
use Rattle.ref_bundle.proofs.Lists.{taken_all}
use Rattle.ref_bundle.proofs.tables.table_of.Goals as goal

pub returns : goal.returns
returns c =
    let l = c.loop-own in
    ap table_of c.in_ok-table.ensures.entered ∙ l.invariant
    ∙ ap (flat_map (λ e. map entry_under (filter (is_other (option_map (λ t. table_of t.now) c.args.last)) (borne_in e)))) (taken_all numbered_document c.args.owns.now l.own-index (omega arith))
