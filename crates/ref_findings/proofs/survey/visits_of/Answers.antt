use Rattle.std.proofs.Common.{◌≡◌, ◌∙◌, [], ◌∷◌, ◌++◌, ◌+◌, true, map, take, ap, sym, subst, rules}
use Rattle.std.proofs.lemmas.List.{map-append}
use Rattle.ref_index.specs.Listed.{AreNoted, none}
use Rattle.ref_index.specs.Visit.{place_of as visited_place}
use Rattle.ref_findings.specs.inner.Seen.{place_of}
use Rattle.ref_findings.proofs.Lists.{taken_more}
use Rattle.ref_findings.proofs.Noted.{noted_more, left_more, plain_left_out}
use Rattle.ref_findings.proofs.survey.visits_of.Goals as goal
use Rattle.ref_findings.proofs.survey.visits_of.Goals.{then-not-is_plain+in_ok-visit+in_ok-push_visit, else-not-is_plain}

pub loop-place-init : goal.loop-place-init
loop-place-init c = subst (λ l. AreNoted [] (map visited_place l)) (sym c.new-visits.ensures.items) none

pub loop-place-preserved : goal.loop-place-preserved
loop-place-preserved c =
    let ps = c.args.places.now in
    let i = c.loop-place.place-index in
    let p = c.place-item.result in
    let before = map place_of (take i ps) in
    let vs = map visited_place c.loop-place.visits.items in
    let taken : map place_of (take (i + 1) ps) ≡ before ++ place_of p ∷ [] = taken_more place_of ps i p c.loop-place-test.true ∙ ap (λ q. before ++ place_of q ∷ []) (sym c.place-item.is) in
    subst (λ l. AreNoted l (map visited_place c.if-not-is_plain.visits.items)) (sym taken)
    (elim c.if-not-is_plain.branch [
      | then-not-is_plain+in_ok-visit+in_ok-push_visit w ↦
          let grown : map visited_place c.if-not-is_plain.visits.items ≡ vs ++ place_of p ∷ [] =
          ap (λ v. map visited_place v.items) w.visits-is ∙ ap (map visited_place) w.in_ok-push_visit.ensures ∙ map-append visited_place c.loop-place.visits.items (w.in_ok-visit.visit ∷ []) ∙ ap (λ q. vs ++ q ∷ []) w.in_ok-visit.ensures.value in
          subst (AreNoted (before ++ place_of p ∷ [])) (sym grown) (noted_more before vs (place_of p) c.loop-place.invariant)
      | else-not-is_plain w ↦
          let plain : c.is_plain.result ≡ true = search rules in
          subst (λ v. AreNoted (before ++ place_of p ∷ []) (map visited_place v.items)) (sym w.visits-is) (left_more before vs (place_of p) (plain_left_out p (c.is_plain.ensures.value plain)) c.loop-place.invariant)
    ])
