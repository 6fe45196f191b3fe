use Rattle.std.proofs.Common.{[], ◌∷◌, length, Some, refl, sym, ap, ◌∙◌, subst, arith, length-append}
use Rattle.std.specs.Map.{lookup}
use Rattle.indexmap.specs.IndexMap.{insert_entry}
use Rattle.ref_parts.specs.inner.Slots.{pairs, AllHold, EachOnce, IsPlaceOf, entries_of}
use Rattle.ref_parts.proofs.MapLaws.{pairs-append, length-pairs, AllHold-append, insert_missing, EachOnce-slot_push}
use Rattle.ref_parts.proofs.LentLaws.{IsAt_slot, IsAt_written, IsAt_moved, IsAt_last, written_is_put, entries_written, form_written}
use Rattle.ref_parts.specs.declared.small_map.Form.TheVariants.{Small}
use Rattle.ref_parts.proofs.small_map.put.Goals as goal

pub returns-in-Some-clause-kept : goal.returns-in-Some-clause-kept
returns-in-Some-clause-kept g c =
    let eq = g.K.PartialEq.eq in
    let slots = c.in-Small.slots.items in
    let form = rw c.in-Small.is at c.requires in
    let place = subst (λ s. IsPlaceOf eq c.args.key s c.in-Some.place) c.as_slice.ensures.value c.in-Some.ensures in
    form_written eq (Small c.in-Small.slots) c.in-Some.place c.args.value form (omega (arith, place.within, length-pairs slots form.0))

pub returns-in-Some-clause-ok : goal.returns-in-Some-clause-ok
returns-in-Some-clause-ok g c =
    let eq = g.K.PartialEq.eq in
    let slots = c.in-Small.slots.items in
    let form = rw c.in-Small.is at c.requires in
    let i = c.in-Some.place in
    let place = subst (λ s. IsPlaceOf eq c.args.key s i) c.as_slice.ensures.value c.in-Some.ensures in
    entries_written eq (Small c.in-Small.slots) i c.args.value form (omega (arith, place.within, length-pairs slots form.0))
    ∙ written_is_put eq c.args.key (pairs slots) i c.args.value (IsAt_slot eq c.args.key slots i form.0 place)
    ∙ ap (λ f. insert_entry eq (entries_of f) c.args.key c.args.value) (sym c.in-Small.is)

pub returns-in-Some-clause-place : goal.returns-in-Some-clause-place
returns-in-Some-clause-place g c =
    let eq = g.K.PartialEq.eq in
    let slots = c.in-Small.slots.items in
    let form = rw c.in-Small.is at c.requires in
    let i = c.in-Some.place in
    let place = subst (λ s. IsPlaceOf eq c.args.key s i) c.as_slice.ensures.value c.in-Some.ensures in
    IsAt_moved eq c.args.key _ _ i i (entries_written eq (Small c.in-Small.slots) i c.args.value form (omega (arith, place.within, length-pairs slots form.0))) refl
    (IsAt_written eq c.args.key (pairs slots) i c.args.value (IsAt_slot eq c.args.key slots i form.0 place))

pub returns-then-len-clause-kept : goal.returns-then-len-clause-kept
returns-then-len-clause-kept g c =
    let slots = c.in-Small.slots.items in
    let form = rw c.in-Small.is at c.requires in
    let none = ap (λ s. lookup (g.K.PartialEq.eq c.args.key) (pairs s)) (sym c.as_slice.ensures.value) ∙ c.in_default.ensures in (
      subst AllHold (sym c.push.ensures.items) (AllHold-append slots (Some (c.args.key, c.args.value) ∷ []) form.0 tt),
      omega (arith, c.push.ensures.len, c.len.ensures.value, c.if-len.true),
      subst (λ s. EachOnce g.K.PartialEq.eq (pairs s)) (sym c.push.ensures.items) (EachOnce-slot_push g.met.K.Eq.laws slots c.args.key c.args.value form.2 none),
    )

pub returns-then-len-clause-ok : goal.returns-then-len-clause-ok
returns-then-len-clause-ok g c =
    let eq = g.K.PartialEq.eq in
    let slots = c.in-Small.slots.items in
    let none = ap (λ s. lookup (eq c.args.key) (pairs s)) (sym c.as_slice.ensures.value) ∙ c.in_default.ensures in
    ap pairs c.push.ensures.items ∙ pairs-append slots (Some (c.args.key, c.args.value) ∷ []) ∙ sym (insert_missing eq c.args.key (pairs slots) c.args.value none)
    ∙ ap (λ f. insert_entry eq (entries_of f) c.args.key c.args.value) (sym c.in-Small.is)

pub returns-then-len-clause-place : goal.returns-then-len-clause-place
returns-then-len-clause-place g c =
    let eq = g.K.PartialEq.eq in
    let slots = c.in-Small.slots.items in
    let form = rw c.in-Small.is at c.requires in
    let none = ap (λ s. lookup (eq c.args.key) (pairs s)) (sym c.as_slice.ensures.value) ∙ c.in_default.ensures in
    IsAt_moved eq c.args.key _ _ _ _ (ap pairs c.push.ensures.items ∙ pairs-append slots (Some (c.args.key, c.args.value) ∷ [])) (c.len-place.ensures.value ∙ sym (length-pairs slots form.0))
    (IsAt_last eq c.args.key c.args.value (pairs slots) (g.met.K.Eq.laws.refl c.args.key) none)

pub returns-in_err-map-clause-inline : goal.returns-in_err-map-clause-inline
returns-in_err-map-clause-inline g c =
    let slots = c.in-Small.slots.items in
    let form = rw c.in-Small.is at c.requires in
    λ short. absurd (omega (arith, short, ap (λ f. length (entries_of f)) c.in-Small.is, length-pairs slots form.0, c.len.ensures.value, c.if-len.false))

pub returns-clause-kept : goal.returns-clause-kept
returns-clause-kept g c =
    let eq = g.K.PartialEq.eq in
    let slots = c.in-Small.slots.items in
    let form = rw c.in-Small.is at c.requires in
    let none = ap (λ s. lookup (eq c.args.key) (pairs s)) (sym c.as_slice.ensures.value) ∙ c.in_default.ensures in
    let old = c.in_ok-map.map.entries in
    let moved = c.in_ok-map.ensures.ok in
    let grown = c.in-Ok.ensures.ok ∙ insert_missing eq c.args.key old c.args.value (ap (lookup (eq c.args.key)) moved ∙ none) in
    omega (arith, ap length grown, length-append old ((c.args.key, c.args.value) ∷ []), ap length moved, length-pairs slots form.0, c.len.ensures.value, c.if-len.false)
