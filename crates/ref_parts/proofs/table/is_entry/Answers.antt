use Rattle.std.proofs.Common.{◌≡◌, ℕ, List, Bool, true, false, ◌&&◌, bytes_eq, eqb, rules, refl, sym, ap, ◌∙◌}
use Rattle.std.specs.Ordering.{nat_cmp, ordering_then}
use Rattle.std.specs.Cmp.{Equal-is}
use Rattle.std.specs.Cmp.Lexicographic.{slice_cmp}
use Rattle.std.specs.declared.cmp.Ordering.TheVariants.{Equal}
use Rattle.std.proofs.lemmas.Map.Text.{is_eq-slice_cmp}
use Rattle.ref_parts.specs.inner.SortedEntries.{text_between, pair_cmp}
use Rattle.ref_parts.proofs.OrderLaws.{equal_keys}
use Rattle.ref_parts.proofs.table.is_entry.Goals as goal

pub returns-then-eq : goal.returns-then-eq
returns-then-eq g c = λ yes.
    let first = text_between c.args.slot.now.first c.args.slot.now.second c.args.texts.now.items in
    let second = text_between c.args.slot.now.second c.args.slot.now.end c.args.texts.now.items in
    let one : c.text_within-other_first.result.now ≡ first = c.text_within-other_first.ensures ∙ ap (text_between c.args.slot.now.first c.args.slot.now.second) c.as_slice-buffer.ensures.value in
    let two : c.text_within-other_second.result.now ≡ second = c.text_within-other_second.ensures ∙ ap (text_between c.args.slot.now.second c.args.slot.now.end) c.as_slice-buffer.ensures.value in
    equal_keys c.args.slot.now.word c.args.word c.args.first.now first c.args.second.now second (search rules) (ap (bytes_eq c.args.first.now) (sym one) ∙ search rules) (ap (bytes_eq c.args.second.now) (sym two) ∙ search rules)
