use Rattle.std.proofs.Common.{◌≡◌, ◌∙◌, [], None, Some, ap, option_copied, rules}
use Rattle.ref_parts.specs.Table.{last_value}
use Rattle.ref_findings.specs.Bearers.{other_bearer}
use Rattle.ref_findings.specs.Findings.{DuplicateIdentifier}
use Rattle.ref_findings.specs.inner.Meanings.{IsBearer}
use Rattle.ref_findings.specs.inner.Seen.{known_in}
use Rattle.ref_findings.proofs.Tables.{last_is_first}
use Rattle.ref_findings.proofs.Duplicates.{uri_problem_is}
use Rattle.ref_findings.proofs.known.Known.of_uri.Goals as goal

pub returns-in_default : goal.returns-in_default
returns-in_default c =
    let k = known_in c.args.self.now in
    let text : c.as_str.result.now ≡ c.args.uri.now.value = search rules in
    let found = c.get.ensures.value ∙ ap (λ t. last_value t [] c.args.self.now.uris.now) text ∙ last_is_first c.args.uri.now.value [] c.args.self.now.uris.now in
    let none : other_bearer k.sites c.args.number (option_copied c.get.result.0) ≡ None = search rules in
    record { value = uri_problem_is k c.args.number c.args.uri.now.value None (option_copied c.get.result.0) found none }

pub returns : goal.returns
returns c =
    let k = known_in c.args.self.now in
    let text : c.as_str.result.now ≡ c.args.uri.now.value = search rules in
    let found = c.get.ensures.value ∙ ap (λ t. last_value t [] c.args.self.now.uris.now) text ∙ last_is_first c.args.uri.now.value [] c.args.self.now.uris.now in
    let is : IsBearer (other_bearer k.sites c.args.number (option_copied c.get.result.0)) (Some c.in-Some.first) = search rules in
    let same : c.in_ok-uri.uri.value ≡ c.args.uri.now.value = search rules in
    record { value = (DuplicateIdentifier c.args.uri.now.value is.0.0 is.0.1.path, uri_problem_is k c.args.number c.args.uri.now.value (Some is.0) (option_copied c.get.result.0) found is.1, (same, is.2, is.3)) }
