use Rattle.std.proofs.Common.{rules, ◌≡◌, true, false, ◌∙◌}
use Rattle.std.specs.Ordering.{nat_cmp, is_eq}
use Rattle.std.specs.Cmp.Lexicographic.{slice_cmp}
use Rattle.std.proofs.lemmas.Map.Text.{is_eq-slice_cmp}
use Rattle.ref_parts.specs.inner.SortedEntries.{pair_of}
use Rattle.ref_parts.proofs.OrderLaws.{first_decides, second_decides}
use Rattle.ref_parts.proofs.table.texts_of_slots.Goals as goal

pub returns-then-eq : goal.returns-then-eq
returns-then-eq g c =
    let texts = c.args.texts.now.items in
    let slot = c.args.slot.now in
    let other = c.args.other.now in
    let alike : is_eq (slice_cmp nat_cmp (pair_of texts other).0 (pair_of texts slot).0) ≡ true =
    is_eq-slice_cmp (pair_of texts other).0 (pair_of texts slot).0 ∙ search rules in
    let seconds : c.cmp.result ≡ slice_cmp nat_cmp (pair_of texts other).1 (pair_of texts slot).1 = search rules in
    seconds ∙ second_decides _ _ alike

pub returns : goal.returns
returns g c =
    let texts = c.args.texts.now.items in
    let slot = c.args.slot.now in
    let other = c.args.other.now in
    let unlike : is_eq (slice_cmp nat_cmp (pair_of texts other).0 (pair_of texts slot).0) ≡ false =
    is_eq-slice_cmp (pair_of texts other).0 (pair_of texts slot).0 ∙ search rules in
    let firsts : c.cmp-2.result ≡ slice_cmp nat_cmp (pair_of texts other).0 (pair_of texts slot).0 = search rules in
    firsts ∙ first_decides _ (slice_cmp nat_cmp (pair_of texts other).1 (pair_of texts slot).1) unlike
