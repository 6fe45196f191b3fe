use Rattle.std.proofs.Common.{◌≡◌, ◌∷◌, ◌++◌, [], Some, map, option_map, reverse, sym, subst, rules}
use Rattle.std.specs.Option.{option_to_list}
use Rattle.std.specs.List.{AllZip}
use Rattle.ref_findings.specs.Guessed.{referrer, root_uri}
use Rattle.ref_findings.specs.Findings.{guessed_draft}
use Rattle.ref_findings.specs.Entries.{IsFindingOf}
use Rattle.ref_findings.specs.inner.Seen.{place_of, site_of}
use Rattle.ref_findings.proofs.Zips.{zip_append}
use Rattle.ref_findings.proofs.guessed.add_draft.Goals as goal

pub returns : goal.returns
returns c = λ fs zip.
    let r = c.args.referrers.now in
    let n = c.args.number in
    let s = site_of c.in-Some.site.now in
    let there : referrer (map site_of r.sites.now) (reverse r.table.now) c.args.uri.now (root_uri (map place_of c.args.places.now)) ≡ Some s = search rules in
    let g = guessed_draft n s in
    subst (λ o. AllZip IsFindingOf c.push.new.self.items (fs ++ option_to_list (option_map (guessed_draft n) o))) (sym there)
    (subst (λ l. AllZip IsFindingOf l (fs ++ g ∷ [])) (sym c.in_ok-push.ensures.items)
    (zip_append IsFindingOf c.args.list.now.items fs (c.in_ok-finding.finding ∷ []) (g ∷ []) zip (c.in_ok-finding.ensures, tt)))
