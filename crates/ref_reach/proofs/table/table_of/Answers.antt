use Rattle.std.proofs.Common.{◌≡◌, ◌∙◌, ◌++◌, [], ◌∷◌, map, take, ap, sym, rules}
use Rattle.std.specs.List.{enumerate_from}
use Rattle.std.proofs.lemmas.List.{map-append}
use Rattle.ref_reach.specs.Places.{own_entry}
use Rattle.ref_reach.specs.Views.{place_of}
use Rattle.ref_reach.proofs.Lists.{numbered_more}
use Rattle.ref_reach.proofs.table.table_of.Goals as goal

pub loop-number-preserved : goal.loop-number-preserved
loop-number-preserved c =
    let l = c.loop-number in
    let p = c.index-places-number.result in
    let before = enumerate_from 0 (map place_of (take l.number c.args.places.now)) in
    let pushed : c.push.new.self ≡ l.entries ++ own_entry (l.number, place_of p) ∷ [] = search rules in
    pushed ∙ ap (λ es. es ++ own_entry (l.number, place_of p) ∷ []) l.invariant
    ∙ sym (map-append own_entry before ((l.number, place_of p) ∷ []))
    ∙ ap (map own_entry) (ap (λ q. before ++ (l.number, place_of q) ∷ []) c.index-places-number.is ∙ sym (numbered_more place_of c.args.places.now l.number p c.loop-number-test.true))
