use Rattle.std.proofs.Common.{◌≡◌, arith}
use Rattle.std.proofs.lemmas.Grind.{common_steps}
use Rattle.ref_yaml.specs.Core.{without_zeros}
use Rattle.ref_yaml.proofs.Digits.{whole_some, line_some}
use Rattle.ref_yaml.proofs.whole.whole_value.Goals as goal

pub returns : goal.returns
returns c =
    let whole : without_zeros c.args.text.now ≡ c.args.text.now = grind (arith, common_steps) in
    record {
      value = whole_some c.args.text.now c.digits_value.result whole c.digits_value.ensures.digits c.digits_value.ensures.value c.digits_value.ensures.below;
      one_line = line_some c.args.text.now c.digits_value.result c.digits_value.ensures.digits;
    }
