use Rattle.std.proofs.Common.{◌≡◌, ◌∙◌, ◌+◌, ◌≤◌, ◌++◌, ◌∷◌, List, length, map, drop, ap, sym, append_assoc, append-nil, arith}
use Rattle.std.proofs.lemmas.List.{drop_more, drop_all}
use Rattle.ref_graphs.specs.Views.{step_of, lead_of}
use Rattle.ref_graphs.specs.inner.Rounds.{steps_at, steps_of, numbers_at, numbers_from}
use Rattle.ref_graphs.specs.declared.rounds.Lead as rust
use Rattle.ref_graphs.proofs.rounds.steps_of.Goals as goal

pub loop-number-preserved : goal.loop-number-preserved
loop-number-preserved c =
    let l = c.loop-number in
    let xs = c.args.leads.now in
    let x = c.index-leads-number.result in
    let rest = drop (l.number + 1) xs in
    let split : drop l.number xs ≡ x ∷ rest = drop_more xs l.number x c.loop-number-test.true ∙ ap (λ (y : rust.Lead). y ∷ rest) (sym c.index-leads-number.is) in
    let done = c.in_ok-push_lead.ensures in
    record {
      list = ap (λ m. m ++ steps_of (map lead_of rest)) done.list ∙ append_assoc (map step_of l.steps.list.items) (steps_at (lead_of x)) (steps_of (map lead_of rest))
          ∙ ap (λ (ys : List rust.Lead). map step_of l.steps.list.items ++ steps_of (map lead_of ys)) (sym split) ∙ l.invariant.list;
      by = ap (λ m. m ++ numbers_from (l.number + 1) (map lead_of rest)) done.by ∙ append_assoc l.steps.by.items (numbers_at l.number (lead_of x)) (numbers_from (l.number + 1) (map lead_of rest))
          ∙ ap (λ (ys : List rust.Lead). l.steps.by.items ++ numbers_from l.number (map lead_of ys)) (sym split) ∙ l.invariant.by;
    }

pub returns-clause-list : goal.returns-clause-list
returns-clause-list c =
    let l = c.loop-number in
    let xs = c.args.leads.now in
    let past : length xs ≤ l.number = omega arith in
    sym (append-nil (map step_of l.steps.list.items)) ∙ ap (λ (ys : List rust.Lead). map step_of l.steps.list.items ++ steps_of (map lead_of ys)) (sym (drop_all l.number xs past)) ∙ l.invariant.list

pub returns-clause-by : goal.returns-clause-by
returns-clause-by c =
    let l = c.loop-number in
    let xs = c.args.leads.now in
    let past : length xs ≤ l.number = omega arith in
    sym (append-nil l.steps.by.items) ∙ ap (λ (ys : List rust.Lead). l.steps.by.items ++ numbers_from l.number (map lead_of ys)) (sym (drop_all l.number xs past)) ∙ l.invariant.by
