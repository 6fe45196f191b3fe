use Rattle.std.proofs.Common.{◌≡◌, [], ◌∷◌, ◌++◌, length, reverse, Some, None, sym, ap, ◌∙◌, subst, arith, append-nil, append_assoc, length-append}
use Rattle.std.proofs.lemmas.Bool.{false≢true}
use Rattle.std.proofs.lemmas.List.{length-reverse, reverse-append, reverse-reverse}
use Rattle.std.specs.List.{refill}
use Rattle.ref_parts.specs.inner.Slots.{pairs, EachOnce}
use Rattle.ref_parts.proofs.MapLaws.{insert_missing, EachOnce-before, no_slots, refill_same}
use Rattle.ref_parts.proofs.small_map.hashed.Goals as goal

pub loop-slot-init : goal.loop-slot-init
loop-slot-init g c =
    let items = c.args.slots.now.items in
    let turned : c.reverse.new.self ≡ reverse items = c.reverse.ensures.after ∙ ap reverse c.as_mut_slice.ensures.value in
    let same : refill (length items) items c.reverse.new.self ≡ reverse items = refill_same items c.reverse.new.self (ap length turned ∙ length-reverse items) ∙ turned in
    let room = rw c.in_ok-room.ensures.ok_part at c.checked_add.ensures in
    record {
      all = ap (λ m. m ++ pairs (reverse (refill (length items) items c.reverse.new.self))) c.in_ok-map.ensures.empty ∙ ap (λ s. pairs (reverse s)) same ∙ ap pairs (reverse-reverse items);
      room = omega (arith, room.1, c.len.ensures.value, c.in_ok-map.ensures.spare, ap length same, length-reverse items);
    }

pub loop-slot-preserved-in-Ok : goal.loop-slot-preserved-in-Ok
loop-slot-preserved-in-Ok g c =
    let eq = g.K.PartialEq.eq in
    let l = c.loop-slot in
    let left = c.pop.new.self.items in
    let e : g.row.K.Denot × g.row.V.Denot = (c.in-Some-slot.key, c.in-Some-slot.value) in
    let shape : l.slots.items ≡ left ++ Some e ∷ [] = c.in-Some.ensures.items ∙ ap (λ s. left ++ s ∷ []) c.in-Some-slot.is in
    let turned : reverse l.slots.items ≡ Some e ∷ reverse left = ap reverse shape ∙ reverse-append left (Some e ∷ []) in
    let all : l.map.entries ++ e ∷ pairs (reverse left) ≡ pairs c.args.slots.now.items = sym (ap (λ s. l.map.entries ++ pairs s) turned) ∙ l.invariant.all in
    let missing = EachOnce-before g.met.K.Eq.laws l.map.entries (pairs (reverse left)) e (subst (EachOnce eq) (sym all) c.requires) in
    record {
      all = ap (λ m. m ++ pairs (reverse left)) (c.in-Ok.ensures.ok ∙ insert_missing eq e.0 l.map.entries e.1 missing) ∙ append_assoc l.map.entries (e ∷ []) (pairs (reverse left)) ∙ all;
      room = omega (arith, ap length shape, length-append left (Some e ∷ []), l.invariant.room, c.in-Ok.ensures.uses);
    }

pub unreachable-requires : goal.unreachable-requires
unreachable-requires g c = false≢true (c.in-Err.ensures.room (omega (arith, c.loop-slot.invariant.room)))

pub loop-slot-preserved : goal.loop-slot-preserved
loop-slot-preserved g c =
    let l = c.loop-slot in
    let left = c.pop.new.self.items in
    let shape : l.slots.items ≡ left ++ None ∷ [] = c.in-Some.ensures.items ∙ ap (λ s. left ++ s ∷ []) c.in_default-slot.is in
    let turned : reverse l.slots.items ≡ None ∷ reverse left = ap reverse shape ∙ reverse-append left (None ∷ []) in
    record {
      all = sym (ap (λ s. l.map.entries ++ pairs s) turned) ∙ l.invariant.all;
      room = omega (arith, ap length shape, length-append left (None ∷ []), l.invariant.room);
    }

pub returns-clause-ok : goal.returns-clause-ok
returns-clause-ok g c =
    let l = c.loop-slot in
    let none = no_slots l.slots.items (λ some. false≢true (c.in_default.ensures.variant.1 some)) in
    sym (append-nil l.map.entries) ∙ sym (ap (λ s. l.map.entries ++ pairs (reverse s)) none) ∙ l.invariant.all
