use Rattle.std.proofs.Common.{◌≡◌, ◌∙◌, ◌++◌, [], ◌∷◌, map, take, ap, sym, rules}
use Rattle.std.specs.List.{enumerate_from}
use Rattle.std.proofs.lemmas.List.{map-append}
use Rattle.ref_changes.specs.Sites.{site_entry}
use Rattle.ref_changes.specs.Views.{site_of_place}
use Rattle.ref_changes.proofs.Lists.{numbered_more}
use Rattle.ref_changes.proofs.sites.table_of.Goals as goal

pub loop-number-preserved : goal.loop-number-preserved
loop-number-preserved c =
    let l = c.loop-number in
    let p = c.index-places-number.result in
    let before = enumerate_from 0 (map site_of_place (take l.number c.args.places.now)) in
    let pushed : c.push.new.self ≡ l.entries ++ site_entry (l.number, site_of_place p) ∷ [] = search rules in
    pushed ∙ ap (λ es. es ++ site_entry (l.number, site_of_place p) ∷ []) l.invariant
    ∙ sym (map-append site_entry before ((l.number, site_of_place p) ∷ []))
    ∙ ap (map site_entry) (sym (numbered_more site_of_place c.args.places.now l.number p c.loop-number-test.true c.index-places-number.is))
