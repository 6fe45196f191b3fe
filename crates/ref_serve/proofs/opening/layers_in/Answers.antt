use Rattle.serde_json.specs.View.{view}
use Rattle.ref_serve.proofs.OpeningReads.{layers_found}
use Rattle.ref_serve.proofs.opening.layers_in.Goals as goal

pub returns : goal.returns
returns c =
    layers_found c.args.state.now (view c.args.value.now) c.in_ok-number.number c.in_ok-number.open.now c.in_ok-numbers_of.field-0.items c.in_ok-number.ensures c.in_ok-numbers_of.ensures
