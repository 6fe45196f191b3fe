use Rattle.std.proofs.Common.{◌≡◌, true, sym, rules}
use Rattle.serde_json.specs.View.{view}
use Rattle.ref_findings.proofs.Placing.{plain_sound}
use Rattle.ref_findings.proofs.fault.is_faulty.Goals as goal

pub returns-then-is_plain : goal.returns-then-is_plain
returns-then-is_plain c =
    let p = c.args.place.now in
    let plain : c.is_plain.result ≡ true = search rules in
    sym (plain_sound p.path (view p.value.now) p.draft p.outer.value (c.is_plain.ensures.value plain))
