use Rattle.std.proofs.Common.{rules, ◌≡◌, ◌∙◌, true, is_some, ap, sym, string_bytes}
use Rattle.ref_uri.specs.Components.{Components, text_of}
use Rattle.ref_uri.specs.inner.Target.{components_of, lengths_of_components}
use Rattle.ref_uri.proofs.WrittenUri.{resolved_text_of, resolved_uri}
use Rattle.ref_uri.proofs.reference.UriRef.resolve_against.Goals as goal

pub from_written-requires : goal.from_written-requires
from_written-requires c =
    let base = components_of c.parts.result in
    let scheme : is_some base.scheme ≡ true = ap (λ (d : Components). is_some d.scheme) c.parts.ensures.all ∙ sym c.has_scheme.ensures.value ∙ c.if-not-has_scheme.false in
    resolved_uri base (components_of c.parts-2.result) (string_bytes c.in_ok-text.text) c.in_ok-text.lengths scheme c.parts.ensures.hold c.parts-2.ensures.hold
    (c.in_ok-text.ensures.text ∙ ap text_of c.resolved-target.ensures.value) (c.in_ok-text.ensures.lengths ∙ ap lengths_of_components c.resolved-target.ensures.value)

pub returns-clause-value : goal.returns-clause-value
returns-clause-value c =
    c.from_written.ensures ∙ c.in_ok-text.ensures.text ∙ ap text_of c.resolved-target.ensures.value
    ∙ resolved_text_of (components_of c.parts.result) (components_of c.parts-2.result) c.args.base c.args.self c.parts.ensures.all c.parts-2.ensures.all

pub returns-then-not-has_scheme-clause-no_scheme : goal.returns-then-not-has_scheme-clause-no_scheme
returns-then-not-has_scheme-clause-no_scheme c = search rules
