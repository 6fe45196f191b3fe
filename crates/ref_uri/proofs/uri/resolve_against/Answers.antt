use Rattle.std.proofs.Common.{◌≡◌, ◌&&◌, eqb, get_or, Ok, None, true, false, refl, ap, sym, ◌∙◌}
use Rattle.std.specs.List.{ends_with}
use Rattle.ref_uri.specs.Normal.{normal_form}
use Rattle.ref_uri.specs.Reference.{is_uri_reference, with_fragment}
use Rattle.ref_uri.specs.Resolution.{target_text}
use Rattle.ref_uri.specs.Targets.{parse_refusal, resolve_refusal, uri_against}
use Rattle.ref_uri.proofs.Meanings.{against_without_scheme, against_same, against_target, against_refused, fault_moved, fault_passed}
use Rattle.ref_uri.proofs.uri.resolve_against.Goals as goal

pub returns-then-not-has_scheme : goal.returns-then-not-has_scheme
returns-then-not-has_scheme c =
    let base = c.args.base in
    let text = c.args.uri.now in
    let refused = against_without_scheme base text (sym c.has_scheme.ensures.value ∙ c.if-not-has_scheme.true) in
    record { gives = (resolve_refusal text base, refused, (c.in_ok-uri.ensures.ok, c.in_ok-base.ensures.ok ∙ c.as_str.ensures.value, refl)) }

pub returns-in_err-reference : goal.returns-in_err-reference
returns-in_err-reference c =
    let base = c.args.base in
    let text = c.args.uri.now in
    let fault = c.in_err-reference.field-0.0 in
    let other : (eqb (get_or text 0 0) 35 && ends_with eqb base text) ≡ false = ap (λ b. eqb (get_or text 0 0) 35 && ends_with eqb b text) (sym c.as_str-2.ensures.value) ∙ sym c.is_fragment_at_end.ensures ∙ c.if-is_fragment_at_end.false in
    let moved = fault_moved (uri_against base text) (parse_refusal text) fault (is_uri_reference text ≡ false) c.in_err-reference.ensures.refused c.in_err-reference.ensures.invalid (against_refused base text (sym c.has_scheme.ensures.value ∙ c.if-not-has_scheme.false) other) in
    record { gives = fault_passed c.from_residual-in_err-reference.result fault (uri_against base text) c.from_residual-in_err-reference.ensures.1 moved }

pub resolved_then_normalized-requires : goal.resolved_then_normalized-requires
resolved_then_normalized-requires c = sym c.has_scheme.ensures.value ∙ c.if-not-has_scheme.false

pub returns-then-is_fragment_at_end : goal.returns-then-is_fragment_at_end
returns-then-is_fragment_at_end c =
    let base = c.args.base in
    let text = c.args.uri.now in
    let same : (eqb (get_or text 0 0) 35 && ends_with eqb base text) ≡ true = ap (λ b. eqb (get_or text 0 0) 35 && ends_with eqb b text) (sym c.as_str-2.ensures.value) ∙ sym c.is_fragment_at_end.ensures ∙ c.if-is_fragment_at_end.true in
    record { gives = against_same base text (sym c.has_scheme.ensures.value ∙ c.if-not-has_scheme.false) same ∙ ap (λ t. Ok t) (sym c.in_ok-to_uri.ensures) }

pub returns : goal.returns
returns c =
    let base = c.args.base in
    let text = c.args.uri.now in
    let other : (eqb (get_or text 0 0) 35 && ends_with eqb base text) ≡ false = ap (λ b. eqb (get_or text 0 0) 35 && ends_with eqb b text) (sym c.as_str-2.ensures.value) ∙ sym c.is_fragment_at_end.ensures ∙ c.if-is_fragment_at_end.false in
    let target = ap (target_text (with_fragment base None)) c.in_ok-reference.ensures.reference in
    let meant = against_target base text (sym c.has_scheme.ensures.value ∙ c.if-not-has_scheme.false) other (c.in_ok-reference.ensures.accepted refl) in
    record { gives = meant ∙ ap (λ t. Ok t) (sym (c.from_written.ensures ∙ c.in_ok-text.ensures.text ∙ ap normal_form target)) }
