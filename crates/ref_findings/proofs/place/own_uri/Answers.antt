use Rattle.std.proofs.Common.{◌≡◌, [], false, sym, rules}
use Rattle.serde_json.specs.View.{view}
use Rattle.ref_findings.proofs.Based.{none_own}
use Rattle.ref_findings.proofs.place.own_uri.Goals as goal

pub returns-then-not-texts : goal.returns-then-not-texts
returns-then-not-texts c =
    let lacks : c.args.texts.id ≡ false = search rules in
    sym (none_own [] (view c.args.value.now) c.args.draft c.args.outer.now.value (c.requires.2 lacks))
