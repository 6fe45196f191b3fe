use Rattle.std.proofs.Common.{◌≡◌, false, sym, rules}
use Rattle.ref_findings.proofs.place.Place.anchors.Goals as goal

pub returns-then-not-self : goal.returns-then-not-self
returns-then-not-self c =
    let lacks : c.args.self.now.texts.anchor ≡ false = search rules in
    record { value = sym (c.args.self.now.among.3 lacks) }
