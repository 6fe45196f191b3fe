use Rattle.std.proofs.Common.{◌≡◌, ◌∷◌, ◌++◌, [], Some, option_map, sym, subst, rules}
use Rattle.std.specs.Option.{option_to_list}
use Rattle.std.specs.List.{AllZip}
use Rattle.serde_json.specs.View.{view}
use Rattle.ref_findings.specs.Findings.{description_keyword, not_checked}
use Rattle.ref_findings.specs.Entries.{IsFindingOf}
use Rattle.ref_findings.proofs.Zips.{zip_append}
use Rattle.ref_findings.proofs.list.add_description.Goals as goal

pub returns : goal.returns
returns c = λ fs zip.
    let tree = view c.args.value.now in
    let word = c.in-Some.keyword.now in
    let there : description_keyword tree ≡ Some word = search rules in
    let g = not_checked c.args.number tree word in
    subst (λ o. AllZip IsFindingOf c.push.new.self.items (fs ++ option_to_list (option_map (not_checked c.args.number tree) o))) (sym there)
    (subst (λ l. AllZip IsFindingOf l (fs ++ g ∷ [])) (sym c.in_ok-push.ensures.items)
    (zip_append IsFindingOf c.args.list.now.items fs (c.not_checked-finding.result ∷ []) (g ∷ []) zip (c.not_checked-finding.ensures, tt)))
