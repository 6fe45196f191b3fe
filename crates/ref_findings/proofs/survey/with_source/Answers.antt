use Rattle.std.proofs.Common.{◌≡◌, true, Some, ap, sym, ◌∙◌, rules}
use Rattle.serde_json.specs.View.{view}
use Rattle.ref_findings.specs.Places.{document}
use Rattle.ref_findings.specs.Entries.{source_of}
use Rattle.ref_findings.specs.inner.Seen.{Survey}
use Rattle.ref_findings.proofs.Sound.{faultless_more, sound_places}
use Rattle.ref_findings.proofs.survey.with_source.Goals as goal

pub with_document-requires-clause-faultless : goal.with_document-requires-clause-faultless
with_document-requires-clause-faultless c =
    let s = source_of c.args.survey.now.source.now in
    let tree : s.tree ≡ Some (view c.in-Some.value.now) = search rules in
    let truth : c.args.survey.now.is_sound ≡ true = search rules in
    let sound = sym (ap (λ (t : Survey). t.is_sound) c.requires.survey) ∙ truth in
    faultless_more c.args.walked (document c.args.draft s.uri (view c.in-Some.value.now)) c.requires.faultless (sound_places c.args.draft s (view c.in-Some.value.now) tree sound)
