use Rattle.std.proofs.Common.{◌≡◌, ◌∷◌, ◌++◌, [], map, subst, rules}
use Rattle.std.specs.List.{AllZip}
use Rattle.ref_definitions.specs.World.{World}
use Rattle.ref_resolver.specs.Layered.{world_in}
use Rattle.ref_findings.specs.Bearers.{uris_borne, names_borne}
use Rattle.ref_findings.specs.Findings.{sources_findings, place_findings}
use Rattle.ref_findings.specs.Entries.{source_of, IsFindingOf}
use Rattle.ref_findings.specs.inner.Seen.{site_of}
use Rattle.ref_findings.proofs.Knowing.{known_with}
use Rattle.ref_findings.proofs.list.reported.Goals as goal

pub returns : goal.returns
returns c =
    let b = c.args.bearers.now in
    let ss = map source_of c.args.sources.now in
    let ls = map site_of b.sites.items in
    let own = c.args.indexes.now.own.items in
    let known = λ (w : World). known_with w own b.unread ls (uris_borne ls) (names_borne ls) in
    let world : world_in c.new-layers.result ≡ c.args.indexes.now.all ∷ [] = search rules in
    let zipped : AllZip IsFindingOf c.in_ok-findings.findings.items (sources_findings ss ++ place_findings (known (world_in c.new-layers.result)) ls) = search rules in
    record {
      findings = subst (λ (w : World). AllZip IsFindingOf c.in_ok-findings.findings.items (sources_findings ss ++ place_findings (known w) ls)) world zipped;
      references = search rules;
    }
