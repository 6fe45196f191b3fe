use Rattle.std.proofs.Common.{map, refl}
use Rattle.ref_bundle.specs.inner.Seen.{numbered_document, layer_in}
use Rattle.ref_bundle.proofs.Bearing.{first_table, second_table}
use Rattle.ref_bundle.proofs.tables.bearers_of.Goals as goal

pub returns : goal.returns
returns c =
    let owns = c.args.owns.now in
    let layer = layer_in owns in
    let last = first_table c.in_ok-last.last layer (map numbered_document owns) c.requires.order c.in_ok-last.ensures in
    record {
      value = record {
        last = last;
        others = second_table c.in_ok-others.others c.in_ok-last.last layer (map numbered_document owns) c.requires.order last c.in_ok-others.ensures;
      };
      registry = refl;
    }
