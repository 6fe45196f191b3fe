use Rattle.std.proofs.Common.{◌∙◌, map, flat_map, reverse, ap, subst}
use Rattle.std.specs.List.{enumerate_from}
use Rattle.std.proofs.lemmas.List.{reverse-reverse}
use Rattle.ref_findings.specs.Guessed.{uris_referred}
use Rattle.ref_findings.specs.Findings.{guesses_of}
use Rattle.ref_findings.specs.inner.Adding.{Adds}
use Rattle.ref_findings.specs.inner.Seen.{site_of}
use Rattle.ref_findings.proofs.Guessing.{source_in}
use Rattle.ref_findings.proofs.guessed.add_guesses.Goals as goal

pub returns : goal.returns
returns c =
    let draft = c.args.draft in
    let sites = map site_of c.args.sites.now in
    let table = ap reverse c.in_ok-table.ensures ∙ reverse-reverse (uris_referred draft sites) in
    record {
      value = subst (λ es. Adds c.args.list.now.items c.add_all.new.list.items c.add_all.result (flat_map (guesses_of draft sites es) (enumerate_from 0 (map source_in c.args.surveys.now)))) table c.add_all.ensures;
    }
