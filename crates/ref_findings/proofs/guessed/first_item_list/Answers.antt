use Rattle.std.proofs.Common.{◌≡◌, ◌∙◌, true, false, Some, sym, ap, rules}
use Rattle.ref_findings.specs.Guessed.{has_item_list}
use Rattle.ref_findings.specs.inner.Seen.{place_of}
use Rattle.ref_findings.proofs.Guessing.{first_at, none_more}
use Rattle.ref_findings.proofs.guessed.first_item_list.Goals as goal

pub returns-then-has_item_list : goal.returns-then-has_item_list
returns-then-has_item_list c =
    let l = c.loop-place in
    let p = c.place-item.result in
    let is : has_item_list (place_of p) ≡ true = search rules in
    let here = ap place_of c.place-item.is in
    ap Some here ∙ sym (first_at has_item_list (λ q. place_of q) c.args.places.now l.place-index p c.loop-place-test.true l.invariant (sym (ap has_item_list here) ∙ is))

pub loop-place-preserved : goal.loop-place-preserved
loop-place-preserved c =
    let l = c.loop-place in
    let p = c.place-item.result in
    let no : has_item_list (place_of p) ≡ false = search rules in
    none_more has_item_list (λ q. place_of q) c.args.places.now l.place-index p c.loop-place-test.true l.invariant (sym (ap has_item_list (ap place_of c.place-item.is)) ∙ no)
