use Rattle.std.proofs.Common.{◌≡◌, bytes_eq, true, false, sym, ap, ◌∙◌}
use Rattle.std.specs.Ordering.{nat_cmp, is_eq}
use Rattle.std.specs.Cmp.Lexicographic.{slice_cmp}
use Rattle.std.proofs.lemmas.Map.Text.{is_eq-slice_cmp}
use Rattle.ref_parts.specs.inner.SortedEntries.{text_between}
use Rattle.ref_parts.proofs.OrderLaws.{first_decides, second_decides}
use Rattle.ref_parts.proofs.table.texts_of_equal_words.Goals as goal

pub returns-then-eq : goal.returns-then-eq
returns-then-eq g c =
    let other = text_between c.args.slot.now.first c.args.slot.now.second c.args.texts.now.items in
    let is : c.text_within-other_first.result.now ≡ other = c.text_within-other_first.ensures ∙ ap (text_between c.args.slot.now.first c.args.slot.now.second) c.as_slice-buffer.ensures.value in
    let alike : is_eq (slice_cmp nat_cmp c.args.first.now other) ≡ true =
    is_eq-slice_cmp c.args.first.now other ∙ ap (bytes_eq c.args.first.now) (sym is) ∙ sym c.eq.ensures ∙ c.if-eq.true in
    c.text_order.ensures
    ∙ ap (slice_cmp nat_cmp c.args.second.now) (c.text_within.ensures ∙ ap (text_between c.args.slot.now.second c.args.slot.now.end) c.as_slice-buffer.ensures.value)
    ∙ second_decides _ _ alike

pub returns : goal.returns
returns g c =
    let other = text_between c.args.slot.now.first c.args.slot.now.second c.args.texts.now.items in
    let is : c.text_within-other_first.result.now ≡ other = c.text_within-other_first.ensures ∙ ap (text_between c.args.slot.now.first c.args.slot.now.second) c.as_slice-buffer.ensures.value in
    let unlike : is_eq (slice_cmp nat_cmp c.args.first.now other) ≡ false =
    is_eq-slice_cmp c.args.first.now other ∙ ap (bytes_eq c.args.first.now) (sym is) ∙ sym c.eq.ensures ∙ c.if-eq.false in
    c.cmp.ensures ∙ ap (slice_cmp nat_cmp c.args.first.now) is
    ∙ first_decides _ (slice_cmp nat_cmp c.args.second.now (text_between c.args.slot.now.second c.args.slot.now.end c.args.texts.now.items)) unlike
