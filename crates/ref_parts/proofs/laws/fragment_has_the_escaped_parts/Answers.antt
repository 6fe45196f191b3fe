use Rattle.std.proofs.Common.{◌<◌, ◌++◌, ap, ◌∙◌}
use Rattle.std.proofs.lemmas.List.Elements.{All-tail}
use Rattle.ref_parts.specs.Pointer.{slash, part_text, pointer_text, tokens}
use Rattle.ref_parts.proofs.EncodedLaws.{decoded_is}
use Rattle.ref_parts.proofs.PathLaws.{tokens_of_path}
use Rattle.ref_parts.proofs.laws.fragment_has_the_escaped_parts.Goals as goal

pub returns : goal.returns
returns c = record {
  law = λ part path fits small.
      let text = part_text part ++ pointer_text path in
      ap tokens (decoded_is text (All-tail (λ b. b < 256) slash text small)) ∙ tokens_of_path part path fits;
}
