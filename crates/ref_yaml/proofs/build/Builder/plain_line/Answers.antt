use Rattle.std.proofs.Common.{◌≡◌, arith}
use Rattle.std.proofs.lemmas.Grind.{common_steps}
use Rattle.ref_yaml.specs.declared.event.Kind.TheVariants.{Plain}
use Rattle.ref_yaml.proofs.Trees.{plain_line_is}
use Rattle.ref_yaml.proofs.build.Builder.plain_line.Goals as goal

pub returns : goal.returns
returns c =
    let plain : c.args.event.now.kind ≡ Plain = grind (arith, common_steps) in
    record { value = plain_line_is c.args.self.now.text.now c.args.event.now c.line_of.result plain c.line_of.ensures.value c.line_of.ensures.one_line }
