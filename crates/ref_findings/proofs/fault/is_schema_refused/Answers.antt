use Rattle.std.proofs.Common.{◌≡◌, ◌∙◌, Some, not, is_some, ap, sym, rules}
use Rattle.serde_json.specs.View.{view}
use Rattle.ref_definitions.specs.Wants.{schema_at}
use Rattle.ref_index.specs.Meanings.{meta_schema_uri}
use Rattle.ref_findings.specs.Places.{is_refused}
use Rattle.ref_findings.proofs.Refused.{none_refused}
use Rattle.ref_findings.proofs.fault.is_schema_refused.Goals as goal

pub returns : goal.returns
returns c =
    let meaning = meta_schema_uri c.in-Some.text.now in
    let named : schema_at (view c.args.value.now) ≡ Some meaning = search rules in
    let none : c.is_none.result ≡ not (is_some c.in_ok-uri.uri) = search rules in
    let meant = c.in_ok-uri.ensures.value meaning c.meta_schema_of.ensures.value in
    record { value = none ∙ none_refused c.in_ok-uri.uri (λ u. u.value) meaning meant ∙ ap is_refused (sym named) }
