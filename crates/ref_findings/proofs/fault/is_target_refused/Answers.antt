use Rattle.std.proofs.Common.{◌≡◌, ◌∙◌, Some, true, not, is_some, ap, sym, rules}
use Rattle.std.specs.Prelude.{◌==◌, None, is_ok, slice_index, if◌then◌else◌}
use Rattle.ref_uri.specs.Bytes.{hash}
use Rattle.ref_uri.specs.Components.{scheme}
use Rattle.ref_uri.specs.Reference.{is_uri_reference}
use Rattle.ref_uri.specs.Targets.{uri_part}
use Rattle.ref_index.proofs.Referring.{begins_without, part_is}
use Rattle.ref_findings.proofs.Refused.{refused_is}
use Rattle.ref_findings.proofs.fault.is_target_refused.Goals as goal

pub returns : goal.returns
returns c =
    let base = c.args.base.now in
    let reference = c.args.reference.now in
    let text = c.in-Some.text.now in
    let part : Some text ≡ (if slice_index reference 0 == hash then None else Some (uri_part reference)) = search rules in
    let scheme_is : is_some (scheme base) ≡ true = sym c.has_scheme-has_scheme.ensures.value ∙ c.has_scheme-has_scheme.ensures.always in
    let negated : c.is_err.result ≡ not (is_ok c.parse.result) = search rules in
    negated ∙ sym (refused_is base reference (is_ok c.parse.result) (begins_without reference text part) scheme_is (ap is_uri_reference (sym (part_is reference text part)) ∙ sym c.parse.ensures.accepted))
