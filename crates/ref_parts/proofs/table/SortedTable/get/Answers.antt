use Rattle.std.proofs.Common.{◌≡◌, ◌+◌, ◌-◌, ◌/◌, ◌^◌, ◌<◌, length, refl, sym, ap, ◌∙◌, subst, arith}
use Rattle.ref_parts.specs.Table.{last_value, pair_count}
use Rattle.ref_parts.proofs.ProbeLaws.{halved, within_digits, below_middle, above_middle, found_at, found_nowhere, number_at, positive}
use Rattle.ref_parts.proofs.TableLaws.{key_total}
use Rattle.ref_parts.specs.inner.SortedEntries.{IsWithin, word_at, key_of}
use Rattle.ref_parts.proofs.table.SortedTable.get.Goals as goal

pub probe-requires-clause-number : goal.probe-requires-clause-number
probe-requires-clause-number g c =
    number_at c.self.inside.kept.items c.self.inside.words.items c.self.invariant.1 ((c.loop-low.low + c.loop-low.high) / 2) c.index-number.result.now c.index-slot.result.now (omega arith) c.index-number.ensures c.index-slot.ensures

pub probe-requires-clause-within : goal.probe-requires-clause-within
probe-requires-clause-within g c =
    let kept = c.self.inside.kept.items in
    let middle = (c.loop-low.low + c.loop-low.high) / 2 in
    subst (IsWithin c.self.inside.texts.items) (sym c.index-slot.ensures) (c.self.invariant.0.within middle c.index-slot.result.now (omega arith))

pub probe-requires-clause-counts : goal.probe-requires-clause-counts
probe-requires-clause-counts g c =
    let kept = c.self.inside.kept.items in
    let small : length kept < 2 ^ 64 = omega (arith, c.self.inside.kept.small, c.self.inside.kept.ok) in
    let few = within_digits _ c.loop-low.probes (c.loop-low.probes + 1) (length kept) 64 c.loop-low.invariant.left (omega arith) refl small in
    omega (arith, few)

pub returns-clause-value : goal.returns-clause-value
returns-clause-value g c =
    let first = c.args.first.now in
    let second = c.args.second.now in
    let word = c.word_at-word.ensures ∙ ap (word_at c.self.inside.shared) c.as_bytes.ensures.value in
    sym (ap (last_value c.args.first.now c.args.second.now) (sym c.self.view_is) ∙ found_nowhere c.self.inside.texts.items c.self.inside.shared c.self.inside.entered.value.items c.self.inside.kept.items c.self.invariant.0 first second _ word c.loop-low.low c.loop-low.high (omega arith) c.loop-low.invariant.below c.loop-low.invariant.above)

pub returns-clause-asked : goal.returns-clause-asked
returns-clause-asked g c some =
    let count : pair_count c.args.self.now ≡ length c.self.inside.kept.items = ap pair_count (sym c.self.view_is) ∙ sym c.self.invariant.0.count in
    positive c.loop-low.probes (λ none. let idle = c.loop-low.invariant.idle none in omega (arith, some, count, idle))

pub returns-clause-probes : goal.returns-clause-probes
returns-clause-probes g c = λ digits above. c.loop-low.invariant.spent digits (subst (λ n. n < 2 ^ digits) (ap pair_count (sym c.self.view_is) ∙ sym c.self.invariant.0.count) above)

pub returns-in-Equal-clause-probes : goal.returns-in-Equal-clause-probes
returns-in-Equal-clause-probes g c = λ digits above.
    within_digits _ _ _ _ digits c.loop-low.invariant.left (omega arith) c.in-Equal.ensures.counted (subst (λ n. n < 2 ^ digits) (ap pair_count (sym c.self.view_is) ∙ sym c.self.invariant.0.count) above)

pub returns-in-Equal-clause-value : goal.returns-in-Equal-clause-value
returns-in-Equal-clause-value g c =
    let kept = c.self.inside.kept.items in
    let first = c.args.first.now in
    let second = c.args.second.now in
    let word = c.word_at-word.ensures ∙ ap (word_at c.self.inside.shared) c.as_bytes.ensures.value in
    sym (ap (last_value c.args.first.now c.args.second.now) (sym c.self.view_is) ∙ found_at c.self.inside.texts.items c.self.inside.shared c.self.inside.entered.value.items kept c.self.invariant.0 first second _ word ((c.loop-low.low + c.loop-low.high) / 2) c.index-slot.result.now (omega arith) c.index-slot.ensures (sym c.in-Equal.ensures.order))

pub loop-low-preserved-in-Less : goal.loop-low-preserved-in-Less
loop-low-preserved-in-Less g c =
    let middle = (c.loop-low.low + c.loop-low.high) / 2 in
    let some : 0 < c.loop-low.high - c.loop-low.low = omega arith in
    record {
      ordered = omega (arith, some);
      within = omega (arith, c.loop-low.invariant.within);
      below = λ k d under. below_middle key_total (key_of c.self.inside.texts.items) (c.word_at-word.result, (c.args.first.now, c.args.second.now)) c.self.inside.kept.items c.self.invariant.0.sorted middle c.index-slot.result.now (omega arith) c.index-slot.ensures (sym c.in-Less.ensures.order) k d (omega (arith, under));
      above = λ k d over inside. c.loop-low.invariant.above k d (omega (arith, over, some)) inside;
      spent = λ digits above. within_digits _ _ _ _ digits c.loop-low.invariant.left some c.in-Less.ensures.counted above;
      idle = λ none. absurd (omega (arith, none, c.in-Less.ensures.counted));
      left = halved (c.loop-low.high - c.loop-low.low) (c.loop-low.high - (middle + 1)) _ _ _ c.loop-low.invariant.left c.in-Less.ensures.counted (omega arith);
    }

pub loop-low-preserved : goal.loop-low-preserved
loop-low-preserved g c =
    let middle = (c.loop-low.low + c.loop-low.high) / 2 in
    let some : 0 < c.loop-low.high - c.loop-low.low = omega arith in
    record {
      ordered = omega (arith, some);
      within = omega (arith, c.loop-low.invariant.within);
      below = c.loop-low.invariant.below;
      above = above_middle key_total (key_of c.self.inside.texts.items) (c.word_at-word.result, (c.args.first.now, c.args.second.now)) c.self.inside.kept.items c.self.invariant.0.sorted middle c.index-slot.result.now (omega arith) c.index-slot.ensures (sym c.in-Greater.ensures.order);
      spent = λ digits above. within_digits _ _ _ _ digits c.loop-low.invariant.left some c.in-Greater.ensures.counted above;
      idle = λ none. absurd (omega (arith, none, c.in-Greater.ensures.counted));
      left = halved (c.loop-low.high - c.loop-low.low) (middle - c.loop-low.low) _ _ _ c.loop-low.invariant.left c.in-Greater.ensures.counted (omega arith);
    }
