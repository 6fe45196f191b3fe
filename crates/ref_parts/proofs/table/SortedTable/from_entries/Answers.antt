use Rattle.std.proofs.Common.{rules, ◌≡◌, ◌∙◌, ◌++◌, ◌∷◌, [], append_assoc, sym, ap, string_bytes}
use Rattle.std.specs.Vec.Iter.{into_iter_items}
use Rattle.ref_parts.specs.Table.{entries_of}
use Rattle.ref_parts.proofs.table.SortedTable.from_entries.Goals as goal

pub loop-first-preserved : goal.loop-first-preserved
loop-first-preserved g c =
    let rest = into_iter_items c.next.new.self in
    let steps : into_iter_items c.loop-first.first-iterator ≡ (c.in-Some.first, c.in-Some.second, c.in-Some.value) ∷ rest = c.in-Some.ensures.steps.0 in
    let old = c.loop-first.collected in
    let pushed : c.push.new.self ≡ old ++ (string_bytes c.in-Some.first, string_bytes c.in-Some.second, c.in-Some.value) ∷ [] =
    c.in_ok-push.ensures.value
    ∙ ap (λ t. old ++ (t, c.as_str-in-loop-first.result.now, c.in-Some.value) ∷ []) c.as_str.ensures.value
    ∙ ap (λ t. old ++ (string_bytes c.in-Some.first, t, c.in-Some.value) ∷ []) c.as_str-in-loop-first.ensures.value in (
      ap (λ l. l ++ entries_of rest) pushed ∙ append_assoc old _ (entries_of rest) ∙ ap (λ l. old ++ entries_of l) (sym steps) ∙ c.loop-first.invariant.0,
      search rules,
    )
