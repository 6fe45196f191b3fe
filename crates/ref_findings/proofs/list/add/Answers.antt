use Rattle.std.proofs.Common.{◌≡◌, ◌∷◌, ◌++◌, [], Some, Ok, option_map, subst, sym, rules}
use Rattle.std.specs.List.{AllZip}
use Rattle.ref_findings.specs.Findings.{finding_at}
use Rattle.ref_findings.specs.Entries.{IsFindingOf}
use Rattle.ref_findings.specs.inner.Keywords.{keyword_text}
use Rattle.ref_findings.specs.inner.Meanings.{IsMaybe}
use Rattle.std.specs.Prelude.{IfOk}
use Rattle.ref_findings.specs.inner.Seen.{site_of}
use Rattle.ref_findings.proofs.Zips.{zip_append}
use Rattle.ref_findings.proofs.list.add.Goals as goal

pub returns : goal.returns
returns c = λ p maybe fs zip.
    let s = site_of c.args.site.now in
    let keyword = option_map keyword_text c.args.keyword in
    let f = c.in_ok-finding.finding in
    let is : c.args.problem ≡ Ok (Some c.in-Some.problem) = search rules in
    let said : IsMaybe p (Some c.in-Some.problem) = subst (λ r. IfOk r (IsMaybe p)) is maybe in
    subst (λ o. AllZip IsFindingOf c.push.new.self.items (fs ++ finding_at s keyword o)) (sym said.1)
    (subst (λ l. AllZip IsFindingOf l (fs ++ finding_at s keyword (Some said.0))) (sym c.in_ok-push.ensures.items)
    (zip_append IsFindingOf c.args.list.now.items fs (f ∷ []) (finding_at s keyword (Some said.0)) zip (c.in_ok-finding.ensures said.0 said.2)))
