use Rattle.std.proofs.Common.{◌≡◌, ◌+◌, [], ◌∷◌, ◌++◌, take, drop, None, sym, ap, ◌∙◌}
use Rattle.std.proofs.lemmas.Bool.{cond-false}
use Rattle.std.specs.Map.{lookup}
use Rattle.ref_parts.specs.inner.Slots.{pairs}
use Rattle.ref_parts.proofs.MapLaws.{split_read, place_turn}
use Rattle.ref_parts.proofs.small_map.place_of.Goals as goal
use Rattle.ref_parts.proofs.small_map.place_of.Goals.{in-Some+else-eq, in_default}

pub returns-then-eq : goal.returns-then-eq
returns-then-eq g c =
    let slots = c.args.slots.now in
    let i = c.loop-place.place in
    let split = split_read slots i c.index-slots-place.result c.loop-place-test.true c.index-slots-place.is in
    let here = split ∙ ap (λ s. take i slots ++ (s ∷ drop (i + 1) slots)) c.in-Some.is in
    record {
      within = c.loop-place-test.true;
      first = c.loop-place.invariant;
      here = ((c.in-Some.k, c.in-Some.field-0-1), here, ◌∙◌ {a = g.K.PartialEq.eq c.args.key.now c.in-Some.k} (sym c.eq.ensures) c.if-eq.true);
    }

pub loop-place-preserved : goal.loop-place-preserved
loop-place-preserved g c =
    let test = g.K.PartialEq.eq c.args.key.now in
    let slot = c.index-slots-place.result in
    let here : lookup test (pairs (slot ∷ [])) ≡ None =
    elim c.match-slot.branch [
      | in-Some+else-eq w ↦ ap (λ s. lookup test (pairs (s ∷ []))) w.in-Some.is ∙ cond-false _ _ _ (sym w.eq.ensures ∙ w.if-eq.false)
      | in_default w ↦ ap (λ s. lookup test (pairs (s ∷ []))) w.in_default.is
    ] in
    place_turn test c.args.slots.now c.loop-place.place slot c.loop-place-test.true c.index-slots-place.is c.loop-place.invariant here
