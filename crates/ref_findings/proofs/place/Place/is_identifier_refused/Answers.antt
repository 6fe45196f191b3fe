use Rattle.std.proofs.Common.{◌≡◌, ◌∙◌, Some, None, is_some, rules}
use Rattle.serde_json.specs.View.{view}
use Rattle.ref_draft.specs.Schema.{identifier}
use Rattle.ref_definitions.specs.Resources.{own_uri}
use Rattle.ref_findings.specs.inner.Seen.{place_of}
use Rattle.ref_findings.proofs.Based.{refused_by, not_refused}
use Rattle.ref_findings.proofs.place.Place.is_identifier_refused.Goals as goal

pub returns-in-Some : goal.returns-in-Some
returns-in-Some c =
    let p = c.args.self.now in
    let own : Some c.in-Some.field-0.value ≡ own_uri (place_of p) = search (rules, p.means) in
    record { value = not_refused p.path (view p.value.now) p.draft p.outer.value c.in-Some.field-0.value own }

pub returns-in-None : goal.returns-in-None
returns-in-None c =
    let p = c.args.self.now in
    let own : None ≡ own_uri (place_of p) = search (rules, p.means) in
    let has : c.is_some.result ≡ is_some (identifier p.draft (view p.value.now)) = search rules in
    record { value = has ∙ refused_by p.path (view p.value.now) p.draft p.outer.value own }
