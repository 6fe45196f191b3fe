use Rattle.std.proofs.Common.{sym, subst}
use Rattle.ref_parts.specs.FiniteMap.{Puts}
use Rattle.ref_parts.specs.inner.Slots.{entries_of}
use Rattle.ref_parts.proofs.MapLaws.{Puts-insert}
use Rattle.ref_parts.proofs.small_map.SmallMap.insert.Goals as goal

pub returns-clause-ok : goal.returns-clause-ok
returns-clause-ok g c =
    let eq = g.K.PartialEq.eq in
    let old = entries_of c.self.inside.form in
    subst (λ was. Puts eq was (entries_of c.put.new.form) c.args.key c.args.value) c.self.view_is
    (subst (λ new. Puts eq old new c.args.key c.args.value) (sym c.in_ok-put.ensures.ok) (Puts-insert g.met.K.Eq.laws old c.args.key c.args.value))
