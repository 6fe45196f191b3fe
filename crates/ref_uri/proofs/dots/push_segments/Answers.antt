use Rattle.std.proofs.Common.{true, [], subst, ◌≡◌, List, ℕ, ◌++◌, map, append_assoc, ap, sym, ◌∙◌}
use Rattle.std.proofs.lemmas.List.{map-id}
use Rattle.std.proofs.lemmas.Result.{on_ok_weaker, MatchResult-weaker}
use Rattle.ref_uri.specs.Characters.{has_whole_triples}
use Rattle.ref_uri.specs.DotSegments.{segments}
use Rattle.ref_uri.specs.inner.Removal.{AreNames, slash_of}
use Rattle.ref_uri.specs.inner.Written.{written_text}
use Rattle.ref_uri.specs.declared.written.Form.{Form}
use Rattle.ref_uri.specs.declared.written.Form.TheVariants.{Given, Normal}
use Rattle.ref_uri.specs.inner.Target.{LacksEncodedDot}
use Rattle.ref_uri.proofs.NameLemmas.{names_after}
use Rattle.ref_uri.proofs.PlainDots.{segments_stay, names_stay_names}
use Rattle.ref_uri.proofs.WrittenLemmas.{written_segments}
use Rattle.ref_uri.proofs.dots.push_segments.Goals as goal

-- segments as they are given
as_given : (form : Form) (ss : List (List ℕ)) → form ≡ Given → map (written_text form) ss ≡ ss
as_given form ss is = ap (λ f. map (written_text f) ss) is ∙ map-id ss

are_given : (form : Form) (ss : List (List ℕ)) → form ≡ Given → AreNames ss → AreNames (map (written_text form) ss)
are_given form ss is names = subst AreNames (sym (as_given form ss is)) names

pub returns-in-Given-clause-text : goal.returns-in-Given-clause-text
returns-in-Given-clause-text c = λ before path e n.
    let text = c.args.path.now in
    let ss = map (written_text c.args.form) (segments text) in
    let given = as_given c.args.form (segments text) c.in-Given.is in
    let names = are_given c.args.form (segments text) c.in-Given.is (subst (λ (t : List ℕ). AreNames (segments t)) c.as_bytes.ensures.value (c.may_hold_dots.ensures c.if-not-may_hold_dots.true)) in
    on_ok_weaker c.push_names.result
    (λ is. is ∙ ap (λ b. b ++ (slash_of c.args.progress ++ text)) e ∙ append_assoc before path (slash_of c.args.progress ++ text) ∙ ap (λ t. before ++ t) (sym (names_after c.args.progress path ss text (sym given) names).0))
    c.push_names.ensures.text

pub returns-in-Given-clause-progress : goal.returns-in-Given-clause-progress
returns-in-Given-clause-progress c =
    let text = c.args.path.now in
    let ss = map (written_text c.args.form) (segments text) in
    let given = as_given c.args.form (segments text) c.in-Given.is in
    let names = are_given c.args.form (segments text) c.in-Given.is (subst (λ (t : List ℕ). AreNames (segments t)) c.as_bytes.ensures.value (c.may_hold_dots.ensures c.if-not-may_hold_dots.true)) in
    MatchResult-weaker c.push_names.result c.push_names.ensures.progress (λ p is. is ∙ sym (names_after c.args.progress [] ss text (sym given) names).1) (λ _ h. h)

-- segments in normal form
are_normal : (form : Form) (path : List ℕ) → form ≡ Normal → has_whole_triples path ≡ true → AreNames (segments path) → LacksEncodedDot path → AreNames (map (written_text form) (segments path))
are_normal form path is whole names lacks =
    let stay = segments_stay path whole lacks in
    subst (λ (f : Form). AreNames (map (written_text f) (segments path))) (sym is) (names_stay_names (segments path) stay names)

pub returns-in-Normal-clause-text : goal.returns-in-Normal-clause-text
returns-in-Normal-clause-text c = λ before path e n.
    let text = c.args.path.now in
    let form = c.args.form in
    let ss = map (written_text form) (segments text) in
    let no = c.if-not-may_hold_normal_dots.true in
    let names = are_normal form text c.in-Normal.is c.requires.triples (c.may_hold_normal_dots.ensures.names no) (c.may_hold_normal_dots.ensures.lacks no) in
    on_ok_weaker c.push_normal_names.result
    (λ is. is ∙ ap (λ b. b ++ (slash_of c.args.progress ++ written_text form text)) e ∙ append_assoc before path (slash_of c.args.progress ++ written_text form text) ∙ ap (λ t. before ++ t) (sym (names_after c.args.progress path ss (written_text form text) (written_segments form text c.requires.triples) names).0))
    c.push_normal_names.ensures.text

pub returns-in-Normal-clause-progress : goal.returns-in-Normal-clause-progress
returns-in-Normal-clause-progress c =
    let text = c.args.path.now in
    let form = c.args.form in
    let ss = map (written_text form) (segments text) in
    let no = c.if-not-may_hold_normal_dots.true in
    let names = are_normal form text c.in-Normal.is c.requires.triples (c.may_hold_normal_dots.ensures.names no) (c.may_hold_normal_dots.ensures.lacks no) in
    MatchResult-weaker c.push_normal_names.result c.push_normal_names.ensures.progress (λ p is. is ∙ sym (names_after c.args.progress [] ss (written_text form text) (written_segments form text c.requires.triples) names).1) (λ _ h. h)
