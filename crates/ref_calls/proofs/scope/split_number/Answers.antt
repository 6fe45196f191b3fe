use Rattle.std.proofs.Common.{◌≡◌, [], ◌∷◌, ◌++◌, true, false, map, sym, ap, ◌∙◌}
use Rattle.std.proofs.lemmas.List.{map-append}
use Rattle.std.specs.Prelude.{is_some}
use Rattle.serde_json.specs.Find.{as_number}
use Rattle.serde_json.specs.View.{view, items_of, items_view}
use Rattle.ref_calls.specs.Scopes.{front_items, last_number}
use Rattle.ref_calls.proofs.Scopes.{front_at_number, front_at_other, number_at_end, no_number_at_end}
use Rattle.ref_calls.proofs.scope.split_number.Goals as goal

pub returns-then-is_number-clause-front : goal.returns-then-is_number-clause-front
returns-then-is_number-clause-front c =
    let last = c.in-Some.last.now in
    let front = c.in-Some.front.now in
    let whole : items_view c.args.items.now ≡ items_of (map view front ++ view last ∷ []) = ap items_view c.in-Some.ensures.cases.0 ∙ ap items_of (map-append view front (last ∷ [])) in
    let is : is_some (as_number (view last)) ≡ true = sym c.is_number.ensures ∙ c.if-is_number.true in
    sym (ap front_items whole ∙ front_at_number (map view front) (view last) is)

pub returns-then-is_number-clause-number : goal.returns-then-is_number-clause-number
returns-then-is_number-clause-number c =
    let last = c.in-Some.last.now in
    let front = c.in-Some.front.now in
    let whole : items_view c.args.items.now ≡ items_of (map view front ++ view last ∷ []) = ap items_view c.in-Some.ensures.cases.0 ∙ ap items_of (map-append view front (last ∷ [])) in
    let is : is_some (as_number (view last)) ≡ true = sym c.is_number.ensures ∙ c.if-is_number.true in
    sym (ap last_number whole ∙ number_at_end (map view front) (view last) is)

pub returns-else-is_number-clause-front : goal.returns-else-is_number-clause-front
returns-else-is_number-clause-front c =
    let last = c.in-Some.last.now in
    let front = c.in-Some.front.now in
    let whole : items_view c.args.items.now ≡ items_of (map view front ++ view last ∷ []) = ap items_view c.in-Some.ensures.cases.0 ∙ ap items_of (map-append view front (last ∷ [])) in
    let is : is_some (as_number (view last)) ≡ false = sym c.is_number.ensures ∙ c.if-is_number.false in
    whole ∙ sym (ap front_items whole ∙ front_at_other (map view front) (view last) is)

pub returns-else-is_number-clause-number : goal.returns-else-is_number-clause-number
returns-else-is_number-clause-number c =
    let last = c.in-Some.last.now in
    let front = c.in-Some.front.now in
    let whole : items_view c.args.items.now ≡ items_of (map view front ++ view last ∷ []) = ap items_view c.in-Some.ensures.cases.0 ∙ ap items_of (map-append view front (last ∷ [])) in
    let is : is_some (as_number (view last)) ≡ false = sym c.is_number.ensures ∙ c.if-is_number.false in
    sym (ap last_number whole ∙ no_number_at_end (map view front) (view last) is)
