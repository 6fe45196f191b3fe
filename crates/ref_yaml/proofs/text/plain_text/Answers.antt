use Rattle.std.proofs.Common.{refl, ◌∙◌}
use Rattle.std.proofs.lemmas.Result.{IfOk-weaker}
use Rattle.ref_yaml.proofs.OneLine.{plain_same}
use Rattle.ref_yaml.proofs.text.plain_text.Goals as goal

pub returns-then-is_one_line : goal.returns-then-is_one_line
returns-then-is_one_line c = record {
  value = IfOk-weaker c.same_bytes.result _ _ (λ v same. same ∙ plain_same 10 c.args.source.now (c.if-is_one_line.ensures.value.0 refl)) c.same_bytes.ensures.value;
}
