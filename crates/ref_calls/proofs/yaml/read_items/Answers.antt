use Rattle.std.proofs.Common.{◌≡◌, ◌∷◌, [], length, map, vec_len, Ok, Err, sym, ap, subst, ◌∙◌, rules}
use Rattle.std.proofs.lemmas.List.{map-append, nil_from_length, length-map}
use Rattle.std.specs.Vec.Iter.{into_iter_items}
use Rattle.serde_json.specs.View.{view}
use Rattle.ref_calls.specs.Yaml.{AreRead}
use Rattle.ref_calls.specs.inner.Reading.{GivesList}
use Rattle.ref_calls.proofs.InYaml.{IsReadSoFar, read_next, all_read, list_stopped}
use Rattle.ref_calls.proofs.yaml.read_items.Goals as goal

pub loop-item-preserved : goal.loop-item-preserved
loop-item-preserved c =
    let rest = into_iter_items c.next.new.self in
    let item = c.in-Some.item in
    let done = c.loop-item.read.items in
    let all = map view (into_iter_items c.into_iter-item-iterator.result) in
    let steps : into_iter_items c.loop-item.item-iterator ≡ item ∷ rest = c.in-Some.ensures.steps.0 in
    let so_far = subst (λ xs. IsReadSoFar all (map view xs) (map view done)) steps c.loop-item.invariant.0 in (
      subst (IsReadSoFar all (map view rest)) (sym (ap (map view) c.in_ok-push-in-Ok.ensures.items ∙ map-append view done (c.in-Ok.value ∷ [])))
          (read_next all (map view rest) (map view done) (view item) (view c.in-Ok.value) so_far c.in-Ok.ensures),
      search rules,
    )

pub returns-in-Err : goal.returns-in-Err
returns-in-Err c =
    let rest = into_iter_items c.next.new.self in
    let item = c.in-Some.item in
    let done = c.loop-item.read.items in
    let all = map view (into_iter_items c.into_iter-item-iterator.result) in
    let steps : into_iter_items c.loop-item.item-iterator ≡ item ∷ rest = c.in-Some.ensures.steps.0 in
    let so_far = subst (λ xs. IsReadSoFar all (map view xs) (map view done)) steps c.loop-item.invariant.0 in
    let long : length done ≡ vec_len c.loop-item.read = search rules in
    let number : c.len-index.result ≡ length (map view done) = c.len-index.ensures ∙ sym long ∙ sym (length-map done view) in
    subst (λ xs. GivesList (map view xs) (Err c.at_index.result)) c.into_iter-item-iterator.ensures.into_iter_gives.0
    (list_stopped all (map view rest) (map view done) (view item) c.len-index.result c.in-Err.stop c.at_index.result number so_far c.in-Err.ensures c.at_index.ensures)

pub returns : goal.returns
returns c =
    let done = c.loop-item.read.items in
    let all = map view (into_iter_items c.into_iter-item-iterator.result) in
    let none : into_iter_items c.loop-item.item-iterator ≡ [] = nil_from_length (into_iter_items c.loop-item.item-iterator) (sym c.loop-item.invariant.1 ∙ c.in-None.ensures.steps.0) in
    let so_far = subst (λ xs. IsReadSoFar all (map view xs) (map view done)) none c.loop-item.invariant.0 in
    subst (λ xs. AreRead (map view xs) (map view done)) c.into_iter-item-iterator.ensures.into_iter_gives.0 (all_read all (map view done) so_far)
