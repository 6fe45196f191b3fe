use Rattle.serde_json.specs.View.{view}
use Rattle.ref_calls.proofs.InYaml.{yaml_found, yaml_stopped}
use Rattle.ref_calls.proofs.yaml.yaml.Goals as goal

pub returns-in_ok-object_of-in-Ok : goal.returns-in_ok-object_of-in-Ok
returns-in_ok-object_of-in-Ok c =
    yaml_found (view c.args.tree.now) (view c.in_ok-value.value.now) c.in_ok-text.text.now (view c.in-Ok.value) (view c.in_ok-object_of-in-Ok.field-0) c.in_ok-value.ensures c.in_ok-text.ensures c.in-Ok.ensures c.in_ok-object_of-in-Ok.ensures

pub returns-in-Err : goal.returns-in-Err
returns-in-Err c =
    yaml_stopped (view c.args.tree.now) (view c.in_ok-value.value.now) c.in_ok-text.text.now c.in-Err.stop c.in_field.result c.in_ok-value.ensures c.in_ok-text.ensures c.in-Err.ensures c.in_field.ensures
