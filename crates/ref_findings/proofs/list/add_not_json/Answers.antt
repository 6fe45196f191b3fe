use Rattle.std.proofs.Common.{◌∷◌, ◌++◌, [], sym, subst}
use Rattle.std.specs.List.{AllZip}
use Rattle.ref_findings.specs.Findings.{no_json}
use Rattle.ref_findings.specs.Entries.{IsFindingOf}
use Rattle.ref_findings.proofs.Zips.{zip_append}
use Rattle.ref_findings.proofs.list.add_not_json.Goals as goal

pub returns : goal.returns
returns c = λ fs zip.
    let g = no_json c.args.number in
    subst (λ l. AllZip IsFindingOf l (fs ++ g ∷ [])) (sym c.in_ok-push.ensures.items)
    (zip_append IsFindingOf c.args.list.now.items fs (c.no_json-finding.result ∷ []) (g ∷ []) zip (c.no_json-finding.ensures, tt))
