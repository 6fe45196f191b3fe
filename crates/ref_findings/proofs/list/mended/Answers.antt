use Rattle.std.proofs.Common.{◌≡◌, ◌∙◌, map, option_map, ap, sym, subst, IfOk}
use Rattle.std.proofs.lemmas.Simd.{map-map}
use Rattle.serde_json.specs.View.{view}
use Rattle.ref_findings.specs.Entries.{source_of}
use Rattle.ref_findings.specs.inner.Seen.{Survey, seen_survey, survey_in}
use Rattle.ref_findings.proofs.list.mended.Goals as goal

pub returns : goal.returns
returns c =
    let ss = map source_of c.args.sources.now in
    let surveys = c.in_ok-surveys.surveys.items in
    let all = sym (map-map (λ (t : Survey). t.mended) seen_survey surveys) ∙ ap (map (λ (t : Survey). t.mended)) c.in_ok-surveys.ensures.value ∙ map-map (λ (t : Survey). t.mended) (survey_in c.args.draft) ss in
    record { value = subst (λ l. IfOk c.mended_of.result (λ trees. map (option_map view) trees.items ≡ l)) all c.mended_of.ensures.value }
