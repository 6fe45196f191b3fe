use Rattle.std.proofs.Common.{◌≡◌, false, sym, rules}
use Rattle.serde_json.specs.View.{view}
use Rattle.ref_findings.proofs.Dynamic.{none_under}
use Rattle.ref_findings.proofs.place.Place.dynamic_value.Goals as goal

pub returns-then-not-self : goal.returns-then-not-self
returns-then-not-self c =
    let p = c.args.self.now in
    let lacks : p.texts.dynamic ≡ false = search rules in
    let none = p.among.4 lacks in
    record { value = sym (none_under p.draft c.args.keyword (view p.value.now) c.requires none) }
