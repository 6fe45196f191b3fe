use Rattle.std.proofs.Common.{◌≡◌, Some, ap, sym, ◌∙◌}
use Rattle.std.proofs.lemmas.Result.{IfOk-weaker}
use Rattle.ref_yaml.specs.Scalars.{part, double_text}
use Rattle.ref_yaml.proofs.OneLine.{double_same}
use Rattle.ref_yaml.proofs.Texts.{no_text_by, some_is}
use Rattle.ref_yaml.proofs.text.double_of.Goals as goal

pub returns-in-Some : goal.returns-in-Some
returns-in-Some c =
    let is : Some c.in-Some.line.now ≡ double_text (part c.args.text.now c.args.start c.args.end) = double_same c.in-Some.line.now c.in-Some.ensures.one_line ∙ ap double_text c.in-Some.ensures.value in
    record {
      value = IfOk-weaker c.copied.result _ _ (λ s same. sym is ∙ ap Some (sym same)) c.copied.ensures.value;
      refused = no_text_by c.copied.result (λ s. s ≡ c.in-Some.line.now) _ (λ s same. some_is s c.in-Some.line.now (sym same ∙ sym is)) c.copied.ensures.refused;
    }
