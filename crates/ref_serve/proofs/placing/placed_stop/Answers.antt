use Rattle.serde_json.specs.View.{view}
use Rattle.ref_json.specs.Text.{tree_of}
use Rattle.ref_serve.proofs.PlacesTold.{placed_call, unplaced_call}
use Rattle.ref_serve.proofs.placing.placed_stop.Goals as goal

pub returns-in-Ok-placed : goal.returns-in-Ok-placed
returns-in-Ok-placed c d is =
    placed_call (tree_of c.args.line.now) (view c.in-Ok.tree) d (view c.in-Ok-with_values.call) (view c.args.error) (view c.in-Ok-placed.error) c.in-Ok.ensures.tree is c.in-Ok-with_values.ensures
    c.in-Ok-placed.ensures

pub returns-in-Err-Because-with_values : goal.returns-in-Err-Because-with_values
returns-in-Err-Because-with_values c d is =
    unplaced_call (tree_of c.args.line.now) (view c.in-Ok.tree) d (view c.in-Err-Because-with_values.field-0-0) (view c.args.error) c.in-Ok.ensures.tree is
    (rw c.in-Err-Because-with_values.field-0-is at c.in-Err-Because-with_values.ensures)
