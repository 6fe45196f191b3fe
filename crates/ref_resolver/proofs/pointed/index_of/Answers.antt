use Rattle.std.proofs.Common.{◌∙◌}
use Rattle.ref_resolver.proofs.Numbers.{index_parsed}
use Rattle.ref_resolver.proofs.pointed.index_of.Goals as goal

pub returns : goal.returns
returns c = c.ok.ensures.value ∙ index_parsed c.args.part.now c.parse.result c.parse.ensures.value.0
