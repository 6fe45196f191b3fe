use Rattle.std.proofs.Common.{◌≡◌, ◌∙◌, ◌++◌, ◌||◌, [], false, map, flat_map, ap, subst, rules, IfOk}
use Rattle.std.specs.Prelude.{if◌then◌else◌}
use Rattle.std.specs.List.{AllZip, list_any}
use Rattle.ref_findings.specs.Sources.{sound_document}
use Rattle.ref_findings.specs.Findings.{Known, sources_findings, place_findings}
use Rattle.ref_findings.specs.Entries.{source_of, IsFindingOf}
use Rattle.ref_findings.specs.inner.Seen.{seen_survey, site_of, sound_in, read_of, has_mended, known_among}
use Rattle.ref_findings.proofs.Knowing.{plain_documents, plain_own}
use Rattle.ref_findings.proofs.list.surveyed.Goals as goal

pub returns : goal.returns
returns c =
    let draft = c.args.draft in
    let b = c.args.bearers.now in
    let ss = map source_of c.args.sources.now in
    let ls = map site_of b.sites.items in
    let ts = map seen_survey c.args.surveys.now in
    let us = map seen_survey c.args.others.now in
    let rs = map read_of ts in
    let hs = map read_of us in
    let i = c.in_ok-indexes.indexes in
    let first : list_any has_mended ts ≡ false = search rules in
    let second : list_any has_mended us ≡ false = search rules in
    let all : i.all ≡ flat_map (sound_document draft) rs ++ flat_map (sound_document draft) hs =
    c.in_ok-indexes.ensures.all ∙ ap (λ l. l ++ flat_map (sound_in draft) us) (plain_documents draft ts c.requires.surveys first)
    ∙ ap (λ l. flat_map (sound_document draft) rs ++ l) (plain_documents draft us c.requires.others second) in
    let own : i.own.items ≡ (if b.uris.is_any_twice then map (sound_document draft) rs else []) =
    c.in_ok-indexes.ensures.own ∙ ap (λ l. if b.uris.is_any_twice then l else []) (plain_own draft ts c.requires.surveys first) in
    let known = ap (λ l. known_among l i.own.items b.unread ls) all ∙ ap (λ o. known_among (flat_map (sound_document draft) rs ++ flat_map (sound_document draft) hs) o b.unread ls) own in
    record {
      findings = subst (λ (k : Known). IfOk c.reported.result (λ report. AllZip IsFindingOf report.findings.items (sources_findings ss ++ place_findings k ls))) known c.reported.ensures.findings;
      references = c.reported.ensures.references;
    }
