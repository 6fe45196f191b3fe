use Rattle.std.proofs.Common.{◌≡◌, ◌∷◌, [], Err, suc, add-one, ◌+◌, ◌≤◌, length, map, drop, sym, ap, ◌∙◌, subst, rules}
use Rattle.std.proofs.lemmas.List.{map-append, drop_all, drop_more}
use Rattle.serde_json.specs.View.{view, items_view}
use Rattle.ref_resolver.specs.Resolving.{resolver_of as resolver_view}
use Rattle.ref_calls.specs.Calls.{each_item}
use Rattle.ref_calls.specs.Outcome.{Gives}
use Rattle.ref_serve.specs.Results.{Then, IsList, question_in}
use Rattle.ref_serve.specs.inner.Seen.{started}
use Rattle.serde_json.proofs.Views.{view-Array}
use Rattle.ref_serve.proofs.ListOfReferences.{IsSoFar, next_listed, list_stops, all_listed}
use Rattle.ref_serve.proofs.looking.found_items.Goals as goal

pub loop-index-preserved : goal.loop-index-preserved
loop-index-preserved c =
    let start = started c.args.asked.now (resolver_view c.args.resolver.now) in
    let n = c.loop-index.index in
    let all = each_item (question_in start) 0 (items_view c.args.items.now) in
    let items = c.loop-index.list.items in
    let item = c.index-items-index.result in
    let object = c.in_ok-object.object in
    let rest = drop (n + 1) c.args.items.now in
    let steps : drop n c.args.items.now ≡ item ∷ rest = drop_more c.args.items.now n item c.loop-index-test.true ∙ ap (λ x. x ∷ rest) (sym c.index-items-index.is) in
    subst (λ k. IsSoFar (map view c.push.new.self.items) (each_item (question_in start) k (items_view rest)) all) (sym (add-one n))
    (subst (λ ds. IsSoFar ds (each_item (question_in start) (suc n) (items_view rest)) all) (sym (ap (map view) c.in_ok-push.ensures.items ∙ map-append view items (object ∷ [])))
    (next_listed start all (map view items) (view item) (items_view rest) (view object) n
    (subst (λ left. IsSoFar (map view items) (each_item (question_in start) n (items_view left)) all) steps c.loop-index.invariant) c.in_ok-object.ensures))

pub returns-in_err-object : goal.returns-in_err-object
returns-in_err-object c =
    let start = started c.args.asked.now (resolver_view c.args.resolver.now) in
    let n = c.loop-index.index in
    let all = each_item (question_in start) 0 (items_view c.args.items.now) in
    let ds = map view c.loop-index.list.items in
    let item = c.index-items-index.result in
    let rest = drop (n + 1) c.args.items.now in
    let steps : drop n c.args.items.now ≡ item ∷ rest = drop_more c.args.items.now n item c.loop-index-test.true ∙ ap (λ x. x ∷ rest) (sym c.index-items-index.is) in
    let stop = c.in_err-object.field-0.0 in
    let same : c.from_residual-in_err-object.result ≡ Err stop = search rules in
    subst (Gives (Then all IsList)) (sym same)
    (list_stops start all ds (view item) (items_view rest) n stop (subst (λ left. IsSoFar ds (each_item (question_in start) n (items_view left)) all) steps c.loop-index.invariant) c.in_err-object.ensures)

pub returns : goal.returns
returns c =
    let start = started c.args.asked.now (resolver_view c.args.resolver.now) in
    let n = c.loop-index.index in
    let all = each_item (question_in start) 0 (items_view c.args.items.now) in
    let ds = map view c.loop-index.list.items in
    let gone : length c.args.items.now ≤ n = search rules in
    let none : drop n c.args.items.now ≡ [] = drop_all n c.args.items.now gone in
    rw (view-Array c.loop-index.list) (all_listed all ds (subst (λ left. IsSoFar ds (each_item (question_in start) n (items_view left)) all) none c.loop-index.invariant))
