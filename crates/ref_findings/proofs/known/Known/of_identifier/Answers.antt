use Rattle.std.proofs.Common.{◌≡◌, Some, ap, sym, subst, rules}
use Rattle.std.specs.Prelude.{IfOk}
use Rattle.serde_json.specs.View.{view}
use Rattle.ref_definitions.specs.Places.{base_within}
use Rattle.ref_definitions.specs.Resources.{own_uri}
use Rattle.ref_findings.specs.Findings.{by_base}
use Rattle.ref_findings.specs.inner.Meanings.{IsMaybe}
use Rattle.ref_findings.specs.inner.Seen.{place_of, known_in}
use Rattle.ref_findings.proofs.Based.{base_is}
use Rattle.ref_findings.proofs.known.Known.of_identifier.Goals as goal

pub returns-in-Some : goal.returns-in-Some
returns-in-Some c =
    let k = known_in c.args.self.now in
    let p = c.args.place.now in
    let own : Some c.in-Some.uri.now.value ≡ own_uri (place_of p) = search rules in
    let based = base_is p.path (view p.value.now) p.draft p.outer.value c.in-Some.uri.now.value own in
    record { value = subst (λ b. IfOk c.of_uri.result (IsMaybe (by_base k c.args.number b))) (sym based) c.of_uri.ensures.value }

pub returns-in-None : goal.returns-in-None
returns-in-None c =
    let k = known_in c.args.self.now in
    let p = c.args.place.now in
    record { value = subst (λ b. IfOk c.of_identifier_text.result (IsMaybe (by_base k c.args.number b))) (sym (ap (base_within p.outer.value) c.requires)) c.of_identifier_text.ensures }
