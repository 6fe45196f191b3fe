use Rattle.std.proofs.Common.{length, refl, sym, ap, ◌∙◌, arith}
use Rattle.ref_parts.specs.inner.Slots.{entries_of}
use Rattle.ref_parts.proofs.MapLaws.{length-pairs-le}
use Rattle.ref_parts.proofs.small_map.SmallMap.is_small.Goals as goal

pub returns-in-Small : goal.returns-in-Small
returns-in-Small g c =
    let form = rw c.in-Small.is at c.self.invariant in
    let view = ap entries_of (sym c.in-Small.is) ∙ c.self.view_is in
    record { value = (λ _. omega (arith, form.1, length-pairs-le c.in-Small.field-0.items, ap length view), λ _. refl) }
