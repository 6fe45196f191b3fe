use Rattle.std.proofs.Common.{◌≡◌, ◌∙◌, sym}
use Rattle.ref_yaml.proofs.Texts.{no_text_by, literal_is}
use Rattle.ref_yaml.proofs.text.literal_of.Goals as goal

pub returns-in-Ok-clause-refused : goal.returns-in-Ok-clause-refused
returns-in-Ok-clause-refused c =
    no_text_by c.string_of.result (λ s. s ≡ c.in-Ok.bytes.items) _
    (λ s same. same ∙ sym (literal_is _ _ _ _ _ _ c.chomping_of-chomping.ensures.value c.after_header.ensures.value c.part-source.ensures.value c.in-Ok.ensures.value)) c.string_of.ensures.refused
