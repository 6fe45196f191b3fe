use Rattle.std.proofs.Common.{◌≡◌, ◌∙◌, ℕ, List, map, ap, sym, subst}
use Rattle.ref_graphs.specs.Circles.{Step}
use Rattle.ref_graphs.specs.Views.{step_of, circle_of, lead_of, round_of}
use Rattle.ref_graphs.specs.Closing as closing
use Rattle.ref_graphs.specs.Rounds.{Round, AreClosed, AreAll, AreShown}
use Rattle.ref_graphs.specs.inner.Rounds.{round_at, steps_of, numbers_from}
use Rattle.ref_graphs.proofs.Used.{ok_then}
use Rattle.ref_graphs.proofs.Returning.{closed_rounds, all_rounds, shown_rounds}
use Rattle.ref_graphs.proofs.rounds.rounds_of.Goals as goal

pub returns-clause-closed : goal.returns-clause-closed
returns-clause-closed c =
    let ls = map lead_of c.args.leads.now in
    let by = numbers_from 0 ls in
    let circles = map circle_of c.in_ok-circles.circles.items in
    let count = c.args.count in
    let steps : map step_of c.as_slice.result.now ≡ steps_of ls = ap (map step_of) c.as_slice.ensures.value ∙ c.in_ok-steps.ensures.list in
    let numbers : c.as_slice-2.result.now ≡ by = c.as_slice-2.ensures.value ∙ c.in_ok-steps.ensures.by in
    let given : map circle_of c.as_slice-3.result.now ≡ circles = ap (map circle_of) c.as_slice-3.ensures.value in
    let same : map (round_at c.as_slice-2.result.now) (map circle_of c.as_slice-3.result.now) ≡ map (round_at by) circles =
    ap (λ (b : List ℕ). map (round_at b) (map circle_of c.as_slice-3.result.now)) numbers ∙ ap (map (round_at by)) given in
    ok_then c.rounds_at.result (λ list. map round_of list.items ≡ map (round_at c.as_slice-2.result.now) (map circle_of c.as_slice-3.result.now)) (λ list. AreClosed count ls (map round_of list.items)) c.rounds_at.ensures
    (λ list is. subst (λ (rs : List Round). AreClosed count ls rs) (sym (is ∙ same)) (closed_rounds count ls circles (subst (λ (S : List Step). closing.AreClosed count S circles) steps c.in_ok-circles.ensures.closed)))

pub returns-clause-all : goal.returns-clause-all
returns-clause-all c =
    let ls = map lead_of c.args.leads.now in
    let by = numbers_from 0 ls in
    let circles = map circle_of c.in_ok-circles.circles.items in
    let count = c.args.count in
    let steps : map step_of c.as_slice.result.now ≡ steps_of ls = ap (map step_of) c.as_slice.ensures.value ∙ c.in_ok-steps.ensures.list in
    let numbers : c.as_slice-2.result.now ≡ by = c.as_slice-2.ensures.value ∙ c.in_ok-steps.ensures.by in
    let given : map circle_of c.as_slice-3.result.now ≡ circles = ap (map circle_of) c.as_slice-3.ensures.value in
    let same : map (round_at c.as_slice-2.result.now) (map circle_of c.as_slice-3.result.now) ≡ map (round_at by) circles =
    ap (λ (b : List ℕ). map (round_at b) (map circle_of c.as_slice-3.result.now)) numbers ∙ ap (map (round_at by)) given in
    ok_then c.rounds_at.result (λ list. map round_of list.items ≡ map (round_at c.as_slice-2.result.now) (map circle_of c.as_slice-3.result.now)) (λ list. AreAll count ls (map round_of list.items)) c.rounds_at.ensures
    (λ list is. subst (λ (rs : List Round). AreAll count ls rs) (sym (is ∙ same)) (all_rounds count ls circles (subst (λ (S : List Step). closing.AreAll count S circles) steps c.in_ok-circles.ensures.all)))

pub returns-clause-shown : goal.returns-clause-shown
returns-clause-shown c =
    let ls = map lead_of c.args.leads.now in
    let by = numbers_from 0 ls in
    let circles = map circle_of c.in_ok-circles.circles.items in
    let count = c.args.count in
    let steps : map step_of c.as_slice.result.now ≡ steps_of ls = ap (map step_of) c.as_slice.ensures.value ∙ c.in_ok-steps.ensures.list in
    let numbers : c.as_slice-2.result.now ≡ by = c.as_slice-2.ensures.value ∙ c.in_ok-steps.ensures.by in
    let given : map circle_of c.as_slice-3.result.now ≡ circles = ap (map circle_of) c.as_slice-3.ensures.value in
    let same : map (round_at c.as_slice-2.result.now) (map circle_of c.as_slice-3.result.now) ≡ map (round_at by) circles =
    ap (λ (b : List ℕ). map (round_at b) (map circle_of c.as_slice-3.result.now)) numbers ∙ ap (map (round_at by)) given in
    ok_then c.rounds_at.result (λ list. map round_of list.items ≡ map (round_at c.as_slice-2.result.now) (map circle_of c.as_slice-3.result.now)) (λ list. AreShown (map round_of list.items)) c.rounds_at.ensures
    (λ list is. subst (λ (rs : List Round). AreShown rs) (sym (is ∙ same)) (shown_rounds by circles c.in_ok-circles.ensures.shown))
