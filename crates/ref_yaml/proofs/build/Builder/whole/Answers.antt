use Rattle.std.proofs.Common.{◌≡◌, arith}
use Rattle.std.proofs.lemmas.Grind.{common_steps}
use Rattle.ref_yaml.specs.declared.event.Kind.TheVariants.{Plain}
use Rattle.ref_yaml.proofs.Digits.{whole_text}
use Rattle.ref_yaml.proofs.build.Builder.whole.Goals as goal

pub returns : goal.returns
returns c =
    let plain : c.args.event.now.kind ≡ Plain = grind (arith, common_steps) in
    record { value = whole_text c.args.self.now.text.now c.args.event.now c.part.result.now c.whole_value.result plain c.part.ensures.value c.whole_value.ensures.value c.whole_value.ensures.one_line }
