use Rattle.std.proofs.Common.{rules, of_calls, ◌≡◌, ◌∙◌, ◌++◌, ◌<◌, length, map, take, drop, append-nil, refl, sym, ap, subst, arith, slice_set, slice_index_or}
use Rattle.std.specs.Fn.{CalledAtMut}
use Rattle.std.proofs.lemmas.List.{take_all, drop_all}
use Rattle.ref_parts.specs.declared.table.Slot.{Slot}
use Rattle.ref_parts.specs.inner.SortedEntries.{place_of, slot_with_value}
use Rattle.ref_parts.proofs.Changing.{changed_next, length_kept, unchanged_map}
use Rattle.ref_parts.proofs.table.change_each.Goals as goal

pub loop-slot-preserved : goal.loop-slot-preserved
loop-slot-preserved g c =
    let xs = c.loop-slot.slots in
    let ys = c.args.slots.now in
    let i = c.loop-slot.slot-index in
    let d = c.slot-item.result in
    let s = slice_index_or xs i d in
    let new : Slot g.row.V.Denot = record { word = s.word; first = s.first; second = s.second; end = s.end; value = c.change.new.arg2 } in
    let k : CalledAtMut g.F.FnMut c.loop-slot.change s.value tt c.change.new.self c.change.new.arg2 = search rules in (
      search of_calls,
      unchanged_map place_of xs i d new refl ∙ c.loop-slot.invariant.1,
      λ h by.
          let known = c.loop-slot.invariant.2 h by in
          let called = by s.value c.change.new.arg2 c.change.new.self (subst (λ f. CalledAtMut g.F.FnMut f s.value tt c.change.new.self c.change.new.arg2) known.0 k) in
          let f : Slot g.row.V.Denot → Slot g.row.V.Denot = slot_with_value h in
          let within : i < length ys = omega (arith, length_kept f ys i, ap length known.1) in (
            called.1,
            ap (λ v. slice_set xs i record { word = s.word; first = s.first; second = s.second; end = s.end; value = v }) called.0 ∙ changed_next f xs ys i d within known.1,
          ),
    )

pub returns-clause-value : goal.returns-clause-value
returns-clause-value g c = λ h by.
    let ys = c.args.slots.now in
    let f : Slot g.row.V.Denot → Slot g.row.V.Denot = slot_with_value h in
    let all : length ys ≡ c.loop-slot.slot-index = search rules in
    (c.loop-slot.invariant.2 h by).1
    ∙ ap (λ n. map f (take n ys) ++ drop n ys) (sym all)
    ∙ ap (λ l. map f l ++ drop (length ys) ys) (take_all (length ys) ys (omega arith))
    ∙ ap (λ l. map f ys ++ l) (drop_all (length ys) ys (omega arith)) ∙ append-nil (map f ys)
