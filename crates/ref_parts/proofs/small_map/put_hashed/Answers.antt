use Rattle.ref_parts.proofs.LentLaws.{IsAt_insert, IsAt_moved}
use Rattle.ref_parts.proofs.small_map.put_hashed.Goals as goal

pub returns-in-Ok-clause-place : goal.returns-in-Ok-clause-place
returns-in-Ok-clause-place g c =
    IsAt_moved g.K.PartialEq.eq c.args.key _ _ _ _ c.in-Ok.ensures.entries c.in-Ok.ensures.index
    (IsAt_insert g.K.PartialEq.eq c.args.key c.args.map.now.entries c.args.value (g.met.K.Eq.laws.refl c.args.key))
