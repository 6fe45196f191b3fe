use Rattle.std.proofs.Common.{◌≡◌, ◌∷◌, ◌++◌, [], Some, map, option_map, sym, subst, rules}
use Rattle.std.specs.Option.{option_to_list}
use Rattle.std.specs.List.{AllZip, find}
use Rattle.ref_findings.specs.Guessed.{has_item_list}
use Rattle.ref_findings.specs.Findings.{list_of_items}
use Rattle.ref_findings.specs.Entries.{IsFindingOf}
use Rattle.ref_findings.specs.inner.Seen.{place_of}
use Rattle.ref_findings.proofs.Zips.{zip_append}
use Rattle.ref_findings.proofs.guessed.add_items.Goals as goal

pub returns : goal.returns
returns c = λ fs zip.
    let n = c.args.number in
    let p = place_of c.in-Some.place.now in
    let there : find has_item_list (map place_of c.args.places.now) ≡ Some p = search rules in
    let g = list_of_items n p in
    subst (λ o. AllZip IsFindingOf c.push.new.self.items (fs ++ option_to_list (option_map (list_of_items n) o))) (sym there)
    (subst (λ l. AllZip IsFindingOf l (fs ++ g ∷ [])) (sym c.in_ok-push.ensures.items)
    (zip_append IsFindingOf c.args.list.now.items fs (c.in_ok-finding.finding ∷ []) (g ∷ []) zip (c.in_ok-finding.ensures, tt)))
