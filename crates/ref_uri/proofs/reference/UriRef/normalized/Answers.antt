use Rattle.std.proofs.Common.{◌≡◌, ◌∙◌, String, Global, is_some, ap, string_bytes}
use Rattle.std.proofs.lemmas.Result.{IfOk-weaker}
use Rattle.ref_uri.specs.Components.{Components, scheme, text_of}
use Rattle.ref_uri.specs.inner.Lengths.{IsParsed}
use Rattle.ref_uri.specs.declared.lengths.Lengths.{Lengths}
use Rattle.ref_uri.specs.Normal.{normal_form}
use Rattle.ref_uri.specs.inner.Target.{components_of, written_components, lengths_of_components}
use Rattle.ref_uri.specs.declared.written.Form.TheVariants.{Normal}
use Rattle.ref_uri.proofs.WrittenUri.{normal_text_of, normal_parsed, normal_scheme, both_if_ok}
use Rattle.ref_uri.proofs.reference.UriRef.normalized.Goals as goal

pub returns-clause-text : goal.returns-clause-text
returns-clause-text c =
    IfOk-weaker c.write.result (λ t. string_bytes t.0 ≡ text_of (written_components Normal c.itself.result)) (λ t. string_bytes t.0 ≡ normal_form c.args.self.now)
    (λ t is. is ∙ ap text_of c.itself.ensures.value ∙ normal_text_of (components_of c.parts.result) c.args.self.now c.parts.ensures.all)
    c.write.ensures.text

pub returns-clause-parsed : goal.returns-clause-parsed
returns-clause-parsed c =
    let text = λ (t : String Global × Lengths). string_bytes t.0 ≡ text_of (written_components Normal c.itself.result) in
    let long = λ (t : String Global × Lengths). t.1 ≡ lengths_of_components (written_components Normal c.itself.result) in
    IfOk-weaker c.write.result (λ t. text t × long t) (λ t. IsParsed (string_bytes t.0) t.1)
    (λ t both. normal_parsed (components_of c.parts.result) (string_bytes t.0) t.1 c.parts.ensures.hold (both.0 ∙ ap text_of c.itself.ensures.value) (both.1 ∙ ap lengths_of_components c.itself.ensures.value))
    (both_if_ok c.write.result text long c.write.ensures.text c.write.ensures.lengths)

pub returns-clause-scheme : goal.returns-clause-scheme
returns-clause-scheme c =
    IfOk-weaker c.write.result (λ t. string_bytes t.0 ≡ text_of (written_components Normal c.itself.result)) (λ t. is_some (scheme (string_bytes t.0)) ≡ is_some (scheme c.args.self.now))
    (λ t is. normal_scheme (components_of c.parts.result) (string_bytes t.0) c.parts.ensures.hold (is ∙ ap text_of c.itself.ensures.value) ∙ ap (λ (d : Components). is_some d.scheme) c.parts.ensures.all)
    c.write.ensures.text
