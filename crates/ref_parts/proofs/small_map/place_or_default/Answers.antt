use Rattle.ref_parts.specs.inner.Slots.{entries_of}
use Rattle.ref_parts.proofs.LentLaws.{starts_as}
use Rattle.ref_parts.proofs.small_map.place_or_default.Goals as goal

pub returns-in-Some-clause-ok : goal.returns-in-Some-clause-ok
returns-in-Some-clause-ok g c =
    starts_as g.K.PartialEq.eq c.args.key (entries_of c.args.form.now) c.in-Some.place g.V.Default.is_default c.in-Some.ensures

pub returns-in-Some-clause-place : goal.returns-in-Some-clause-place
returns-in-Some-clause-place g c = c.in-Some.ensures
