use Rattle.std.proofs.Common.{◌≡◌, List, ◌∷◌, true, Some, map, ap, sym, subst, ◌∙◌, rules}
use Rattle.serde_json.specs.View.{view}
use Rattle.ref_definitions.specs.Places.{Place}
use Rattle.ref_index.specs.Listed.{AreNoted}
use Rattle.ref_index.specs.Visit.{place_of as visited_place}
use Rattle.ref_findings.specs.Entries.{source_of}
use Rattle.ref_findings.specs.inner.Seen.{Survey, place_of}
use Rattle.ref_findings.proofs.Noted.{listing}
use Rattle.ref_findings.proofs.survey.with_document.Goals as goal

pub append_listed-requires : goal.append_listed-requires
append_listed-requires c =
    let survey = c.args.survey.now in
    let s = source_of survey.source.now in
    let sound = sym (ap (λ (t : Survey). t.is_sound) c.requires.survey) ∙ c.requires.sound in
    let seen = ap (λ (t : Survey). t.places) c.requires.survey in
    let same : c.as_slice.result.now ≡ survey.places.items = search rules in
    let vs = map visited_place c.in_ok-noted.noted.items in
    let noted = subst (λ l. (first : Place) (below : List Place) → map place_of l ≡ first ∷ below → AreNoted below vs) same c.in_ok-noted.ensures in
    let is = listing c.args.draft s (view c.args.value.now) (map place_of survey.places.items) vs c.requires.value sound seen c.requires.are_there noted in
    search rules
