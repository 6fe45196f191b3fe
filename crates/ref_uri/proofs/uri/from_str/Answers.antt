use Rattle.std.proofs.Common.{◌≡◌, Ok, true, false, is_some, refl, ap, sym, ◌∙◌, string_bytes}
use Rattle.ref_uri.specs.Components.{scheme}
use Rattle.ref_uri.specs.Normal.{normal_form}
use Rattle.ref_uri.specs.Reference.{is_uri_reference}
use Rattle.ref_uri.specs.Targets.{parse_refusal, uri_of}
use Rattle.ref_uri.proofs.DefaultTarget.{default_text, default_uri}
use Rattle.ref_uri.proofs.Meanings.{parsed_with_scheme, parsed_without_scheme, parsed_refused, fault_moved, fault_passed, default_has_scheme}
use Rattle.ref_uri.proofs.uri.from_str.Goals as goal

pub returns-in_err-reference : goal.returns-in_err-reference
returns-in_err-reference c =
    let text = c.args.uri.now in
    let fault = c.in_err-reference.field-0.0 in
    let moved = fault_moved (uri_of text) (parse_refusal text) fault (is_uri_reference text ≡ false) c.in_err-reference.ensures.refused c.in_err-reference.ensures.invalid (parsed_refused text) in
    record { gives = fault_passed c.from_residual.result fault (uri_of text) c.from_residual.ensures.1 moved }

pub from_written-requires : goal.from_written-requires
from_written-requires c = (c.in_ok-text.ensures.parsed, c.in_ok-text.ensures.scheme ∙ sym c.has_scheme.ensures.value ∙ c.if-has_scheme.true)

pub returns-then-has_scheme : goal.returns-then-has_scheme
returns-then-has_scheme c =
    let text = c.args.uri.now in
    let there : is_some (scheme text) ≡ true = ap (λ t. is_some (scheme t)) (sym c.in_ok-reference.ensures.reference) ∙ sym c.has_scheme.ensures.value ∙ c.if-has_scheme.true in
    let written = ap normal_form (sym c.in_ok-reference.ensures.reference) ∙ sym c.in_ok-text.ensures.text ∙ sym c.from_written.ensures in
    record { gives = parsed_with_scheme text (c.in_ok-reference.ensures.accepted refl) there ∙ ap (λ t. Ok t) written }

pub normalized_then_resolved-requires : goal.normalized_then_resolved-requires
normalized_then_resolved-requires c = ap is_some (ap scheme c.default_base.ensures) ∙ default_has_scheme

pub from_written-requires-2 : goal.from_written-requires-2
from_written-requires-2 c =
    default_uri c.default_base.result c.in_ok-reference.reference c.args.uri.now (string_bytes c.in_ok-text-2.text) c.in_ok-text-2.lengths c.default_base.ensures c.in_ok-reference.ensures.reference (c.in_ok-reference.ensures.accepted refl)
    (sym c.has_scheme.ensures.value ∙ c.if-has_scheme.false) c.in_ok-text-2.ensures.text c.in_ok-text-2.ensures.lengths

pub returns : goal.returns
returns c =
    let text = c.args.uri.now in
    let none = sym c.has_scheme.ensures.value ∙ c.if-has_scheme.false in
    let written = default_text c.default_base.result c.in_ok-reference.reference text (string_bytes c.in_ok-text-2.text) c.default_base.ensures c.in_ok-reference.ensures.reference (c.in_ok-reference.ensures.accepted refl) none c.in_ok-text-2.ensures.text in
    let meant = parsed_without_scheme text (c.in_ok-reference.ensures.accepted refl) (ap (λ t. is_some (scheme t)) (sym c.in_ok-reference.ensures.reference) ∙ none) in
    record { gives = meant ∙ ap (λ t. Ok t) (sym (c.from_written-2.ensures ∙ written)) }
