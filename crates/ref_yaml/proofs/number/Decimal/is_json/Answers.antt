use Rattle.std.proofs.Common.{◌≡◌, ◌==◌, if◌then◌else◌, [], ◌∷◌, false, IsTrue, slice_index, subst, arith}
use Rattle.std.proofs.lemmas.Grind.{common_steps}
use Rattle.ref_yaml.specs.Core.{Parts, without_zeros, with_point}
use Rattle.ref_yaml.proofs.Numbers.{as_it_is}
use Rattle.ref_yaml.proofs.number.Decimal.is_json.Goals as goal

pub returns : goal.returns
returns c = record {
  value = λ same is.
      let sign : (slice_index c.args.text.now 0 == 43) ≡ false = grind (arith, common_steps) in
      let one : IsTrue c.is_json_fraction.result = grind (arith, common_steps) in
      let whole = subst (λ (p : Parts). without_zeros p.whole ≡ p.whole) same (c.is_json_whole.ensures.value is) in
      let point = subst (λ (p : Parts). with_point p.point p.fraction ≡ (if p.point then 46 ∷ p.fraction else [])) same (c.is_json_fraction.ensures.value one) in
      as_it_is c.args.text.now sign whole point;
}
