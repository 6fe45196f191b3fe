use Rattle.std.proofs.Common.{◌≡◌, true, ◌++◌, OnOk, subst, sym, rules}
use Rattle.std.specs.List.{AllZip}
use Rattle.ref_findings.specs.Findings.{source_findings, identifier_findings, reference_findings, dynamic_findings, schema_findings, anchor_findings}
use Rattle.ref_findings.specs.Entries.{IsFindingOf}
use Rattle.ref_findings.specs.inner.Seen.{site_of, known_in}
use Rattle.serde_json.specs.View.{view}
use Rattle.ref_findings.proofs.Placing.{plain_findings}
use Rattle.ref_findings.proofs.Zips.{six}
use Rattle.ref_findings.proofs.list.add_site.Goals as goal

pub returns-then-is_plain : goal.returns-then-is_plain
returns-then-is_plain c = λ fs zip.
    let k = known_in c.args.known.now in
    let n = c.args.number in
    let p = c.args.site.now.place.now in
    let plain : c.is_plain.result ≡ true = search rules in
    let none = plain_findings k n c.args.site.now.source p.path (view p.value.now) p.draft p.outer.value (c.is_plain.ensures.value plain) in
    subst (λ l. AllZip IsFindingOf c.add_source_uri.new.list.items (fs ++ l)) (sym none) (c.in_ok-add_source_uri.ensures fs zip)

pub returns : goal.returns
returns c = λ fs zip.
    let k = known_in c.args.known.now in
    let n = c.args.number in
    let s = site_of c.args.site.now in
    let one = source_findings k n s in
    let two = identifier_findings k n s in
    let three = reference_findings k s in
    let four = dynamic_findings k s in
    let five = schema_findings k s in
    let last = anchor_findings k n s in
    subst (λ l. OnOk c.add_anchors.result (AllZip IsFindingOf c.add_anchors.new.list.items l)) (six fs one two three four five last)
    (c.add_anchors.ensures (((((fs ++ one) ++ two) ++ three) ++ four) ++ five)
    (c.in_ok-add_schema.ensures ((((fs ++ one) ++ two) ++ three) ++ four)
    (c.in_ok-add_dynamic.ensures (((fs ++ one) ++ two) ++ three)
    (c.in_ok-add_reference.ensures ((fs ++ one) ++ two)
    (c.in_ok-add_identifier.ensures (fs ++ one)
    (c.in_ok-add_source_uri.ensures fs zip))))))
