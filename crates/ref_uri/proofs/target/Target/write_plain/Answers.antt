use Rattle.std.proofs.Common.{◌≡◌, ◌∙◌, ap, string_bytes}
use Rattle.std.proofs.lemmas.Result.{IfOk-weaker}
use Rattle.ref_uri.specs.Components.{text_of}
use Rattle.ref_uri.specs.inner.Target.{written_components, lengths_of_components}
use Rattle.ref_uri.specs.declared.written.Form.TheVariants.{NormalTarget}
use Rattle.ref_uri.proofs.PlainText.{plain_written}
use Rattle.ref_uri.proofs.target.Target.write_plain.Goals as goal

pub write-requires : goal.write-requires
write-requires c =
    let t = c.requires.target in
    record { scheme_test = t.scheme_test; authority_test = t.authority_test; path_test = c.without_dots.ensures.parts t.path_test; query_test = t.query_test; fragment_test = t.fragment_test; front_test = t.front_test; rest_test = t.rest_test }

pub returns-clause-text : goal.returns-clause-text
returns-clause-text c =
    let same = plain_written c.args.self c.without_dots.result c.requires.target c.requires.plain c.without_dots.ensures.text in
    IfOk-weaker c.write.result _ (λ t. string_bytes t.0 ≡ text_of (written_components NormalTarget c.args.self)) (λ t is. is ∙ ap text_of same) c.write.ensures.text

pub returns-clause-lengths : goal.returns-clause-lengths
returns-clause-lengths c =
    let same = plain_written c.args.self c.without_dots.result c.requires.target c.requires.plain c.without_dots.ensures.text in
    IfOk-weaker c.write.result _ (λ t. t.1 ≡ lengths_of_components (written_components NormalTarget c.args.self)) (λ t is. is ∙ ap lengths_of_components same) c.write.ensures.lengths
