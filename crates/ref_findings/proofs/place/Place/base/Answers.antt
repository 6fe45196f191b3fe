use Rattle.std.proofs.Common.{◌≡◌, Some, None, rules}
use Rattle.serde_json.specs.View.{view}
use Rattle.ref_definitions.specs.Resources.{own_uri}
use Rattle.ref_findings.specs.inner.Seen.{place_of}
use Rattle.ref_findings.proofs.Based.{near_own, near_outer}
use Rattle.ref_findings.proofs.place.Place.base.Goals as goal

pub returns-in-Some : goal.returns-in-Some
returns-in-Some c =
    let p = c.args.self.now in
    let own : Some c.in-Some.own.value ≡ own_uri (place_of p) = search (rules, p.means) in
    record { value = near_own p.path (view p.value.now) p.draft p.outer.value c.in-Some.own.value own }

pub returns-in-None : goal.returns-in-None
returns-in-None c =
    let p = c.args.self.now in
    let own : None ≡ own_uri (place_of p) = search (rules, p.means) in
    record { value = near_outer p.path (view p.value.now) p.draft p.outer.value own }
