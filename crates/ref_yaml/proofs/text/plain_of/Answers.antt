use Rattle.std.proofs.Common.{◌≡◌, ap, sym, ◌∙◌}
use Rattle.std.proofs.lemmas.Result.{IfOk-weaker}
use Rattle.ref_yaml.specs.Scalars.{part, plain_text}
use Rattle.ref_yaml.proofs.OneLine.{plain_same}
use Rattle.ref_yaml.proofs.Texts.{no_text_by}
use Rattle.ref_yaml.proofs.text.plain_of.Goals as goal

pub returns-in-Some : goal.returns-in-Some
returns-in-Some c =
    let is : c.in-Some.line.now ≡ plain_text (part c.args.text.now c.args.start c.args.end) = plain_same 10 c.in-Some.line.now c.in-Some.ensures.one_line ∙ ap plain_text c.in-Some.ensures.value in
    record {
      value = IfOk-weaker c.copied.result _ _ (λ s same. same ∙ is) c.copied.ensures.value;
      refused = no_text_by c.copied.result (λ s. s ≡ c.in-Some.line.now) _ (λ s same. same ∙ sym is) c.copied.ensures.refused;
    }

pub returns-in-Ok-clause-refused : goal.returns-in-Ok-clause-refused
returns-in-Ok-clause-refused c = no_text_by c.string_of.result (λ s. s ≡ c.in-Ok.bytes.items) _ (λ s same. same ∙ sym (c.in-Ok.ensures.value ∙ ap plain_text c.part.ensures.value)) c.string_of.ensures.refused
