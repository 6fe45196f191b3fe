use Rattle.std.proofs.Common.{◌≡◌, ◌∷◌, [], ◌++◌, Ok, Err, suc, add-one, ◌+◌, ◌≤◌, length, map, drop, sym, ap, ◌∙◌, subst, append-nil, rules}
use Rattle.std.proofs.lemmas.List.{map-append, drop_all, drop_more}
use Rattle.serde_json.specs.View.{view, items_view}
use Rattle.ref_calls.specs.Calls.{each_item}
use Rattle.ref_calls.specs.Outcome.{Answers}
use Rattle.ref_calls.proofs.Further.{in_front}
use Rattle.ref_changes.specs.Views.{move_of}
use Rattle.ref_serve.specs.Comparisons.{move_in}
use Rattle.ref_serve.proofs.MovesRead.{front_none, one_more, stopped}
use Rattle.ref_serve.proofs.comparing.moves_in.Goals as goal

pub loop-index-init : goal.loop-index-init
loop-index-init c =
    ap (λ ms. in_front (map move_of ms) (each_item move_in 0 (items_view c.args.items.now))) c.in_ok-moves.ensures.items ∙ front_none (each_item move_in 0 (items_view c.args.items.now))

pub loop-index-preserved : goal.loop-index-preserved
loop-index-preserved c =
    let n = c.loop-index.index in
    let done = map move_of c.loop-index.moves.items in
    let found = c.index-items-index.result in
    let rest = drop (n + 1) c.args.items.now in
    let steps : drop n c.args.items.now ≡ found ∷ rest = drop_more c.args.items.now n found c.loop-index-test.true ∙ ap (λ x. x ∷ rest) (sym c.index-items-index.is) in
    ap (λ k. in_front (map move_of c.push.new.self.items) (each_item move_in k (items_view rest))) (add-one n)
    ∙ ap (λ ms. in_front ms (each_item move_in (suc n) (items_view rest))) (ap (map move_of) c.in_ok-push.ensures.items ∙ map-append move_of c.loop-index.moves.items (c.in_ok-one.one ∷ []))
    ∙ one_more done (move_of c.in_ok-one.one) (view found) (items_view rest) n c.in_ok-one.ensures
    ∙ ap (λ left. in_front done (each_item move_in n (items_view left))) (sym steps) ∙ c.loop-index.invariant

pub returns-in_err-one : goal.returns-in_err-one
returns-in_err-one c =
    let n = c.loop-index.index in
    let all = each_item move_in 0 (items_view c.args.items.now) in
    let done = map move_of c.loop-index.moves.items in
    let found = c.index-items-index.result in
    let rest = drop (n + 1) c.args.items.now in
    let steps : drop n c.args.items.now ≡ found ∷ rest = drop_more c.args.items.now n found c.loop-index-test.true ∙ ap (λ x. x ∷ rest) (sym c.index-items-index.is) in
    let stop = c.in_err-one.field-0.0 in
    let same : c.from_residual-in_err-one.result ≡ Err stop = search rules in
    subst (λ r. Answers (λ v. map move_of v.items) r all) (sym same)
    (stopped done (view found) (items_view rest) n all stop (ap (λ left. in_front done (each_item move_in n (items_view left))) (sym steps) ∙ c.loop-index.invariant) c.in_err-one.ensures)

pub returns : goal.returns
returns c =
    let n = c.loop-index.index in
    let done = map move_of c.loop-index.moves.items in
    let gone : length c.args.items.now ≤ n = search rules in
    let none : drop n c.args.items.now ≡ [] = drop_all n c.args.items.now gone in
    sym c.loop-index.invariant ∙ ap (λ xs. in_front done (each_item move_in n (items_view xs))) none ∙ ap Ok (append-nil done)
