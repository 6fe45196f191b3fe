use Rattle.std.proofs.Common.{◌≡◌, false, codes, sym, rules}
use Rattle.serde_json.specs.Find.{get}
use Rattle.serde_json.specs.View.{view}
use Rattle.ref_findings.proofs.Placing.{none_of}
use Rattle.ref_findings.proofs.place.Place.reference_value.Goals as goal

pub returns-then-not-self : goal.returns-then-not-self
returns-then-not-self c =
    let lacks : c.args.self.now.texts.reference ≡ false = search rules in
    record { value = sym (none_of (get (codes "$ref") (view c.args.self.now.value.now)) (c.args.self.now.among.0 lacks)) }
