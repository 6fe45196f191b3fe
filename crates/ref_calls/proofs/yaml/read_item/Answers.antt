use Rattle.std.proofs.Common.{◌≡◌, Err, rules, subst, sym}
use Rattle.serde_json.specs.View.{view}
use Rattle.ref_calls.specs.Outcome.{Gives}
use Rattle.ref_calls.specs.Yaml.{IsItemRead}
use Rattle.ref_calls.proofs.InYaml.{item_stopped, item_read}
use Rattle.ref_calls.proofs.yaml.read_item.Goals as goal

pub returns-in_err-value : goal.returns-in_err-value
returns-in_err-value c =
    let same : c.from_residual.result ≡ Err c.in_err-value.field-0.0 = search rules in
    subst (Gives (IsItemRead (view c.args.item))) (sym same) (item_stopped (view c.args.item) (c.in-Some.uri.now, c.in-Some.text.now) c.in_err-value.field-0.0 c.in-Some.ensures c.in_err-value.ensures)

pub returns : goal.returns
returns c = item_read (view c.args.item) (c.in-Some.uri.now, c.in-Some.text.now) (view c.in_ok-value.value) (view c.in_ok-with_value.field-0) c.in-Some.ensures c.in_ok-value.ensures c.in_ok-with_value.ensures
