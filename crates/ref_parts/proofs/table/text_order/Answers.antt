use Rattle.std.proofs.Common.{◌≡◌, bytes_eq, true, sym, ◌∙◌}
use Rattle.std.specs.Cmp.{Equal-is}
use Rattle.std.specs.Cmp.Lexicographic.{slice_cmp}
use Rattle.std.specs.Ordering.{nat_cmp}
use Rattle.std.proofs.lemmas.Map.Text.{is_eq-slice_cmp}
use Rattle.ref_parts.proofs.table.text_order.Goals as goal

pub returns-then-eq : goal.returns-then-eq
returns-then-eq c =
    let a = c.args.text.now in
    let b = c.args.other.now in
    let equal : bytes_eq a b ≡ true = sym c.eq.ensures ∙ c.if-eq.true in
    sym ((Equal-is (slice_cmp nat_cmp a b)).0 (is_eq-slice_cmp a b ∙ equal))
