use Rattle.std.proofs.Common.{◌≡◌, ◌∙◌, map, flat_map, ap, subst, rules}
use Rattle.std.specs.Prelude.{IfOk}
use Rattle.std.proofs.lemmas.List.Folds.{flat_map-map}
use Rattle.ref_findings.specs.Entries.{source_of}
use Rattle.ref_findings.specs.inner.Seen.{seen_survey, survey_in}
use Rattle.ref_findings.specs.inner.Wanted.{AreMet, wanted_of, uris_seen, wanted_seen}
use Rattle.ref_findings.proofs.gathering.wants_of.Goals as goal

pub returns-clause-met : goal.returns-clause-met
returns-clause-met c =
    let lent : c.as_slice.result.now ≡ c.in_ok-surveys.surveys.items = search rules in
    let sources = map source_of c.args.sources.now in
    let are : map seen_survey c.as_slice.result.now ≡ map (survey_in c.args.draft) sources = ap (map seen_survey) lent ∙ c.in_ok-surveys.ensures.value in
    subst (λ uris. IfOk c.wants_in.result (λ wants. AreMet wants uris)) (ap (flat_map uris_seen) are ∙ flat_map-map uris_seen (survey_in c.args.draft) sources) c.wants_in.ensures.met

pub returns-clause-wanted : goal.returns-clause-wanted
returns-clause-wanted c =
    let lent : c.as_slice.result.now ≡ c.in_ok-surveys.surveys.items = search rules in
    let sources = map source_of c.args.sources.now in
    let are : map seen_survey c.as_slice.result.now ≡ map (survey_in c.args.draft) sources = ap (map seen_survey) lent ∙ c.in_ok-surveys.ensures.value in
    subst (λ uris. IfOk c.wants_in.result (λ wants. wanted_of wants ≡ uris)) (ap (flat_map wanted_seen) are ∙ flat_map-map wanted_seen (survey_in c.args.draft) sources) c.wants_in.ensures.wanted
