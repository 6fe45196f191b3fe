use Rattle.std.proofs.Common.{[], arith}
use Rattle.std.proofs.lemmas.Grind.{common_steps}
use Rattle.ref_positions.proofs.Paths.{count, added, one_more}
use Rattle.ref_positions.proofs.places.Tree.push.Goals as goal

pub returns-clause-place : goal.returns-clause-place
returns-clause-place c =
    let es = c.args.self.now.entries.items in
    let long = count [] es in
    rw (c.in_ok-push.ensures.items, added es _ c.requires.indexed.some) (grind (arith, common_steps, long))

pub returns-clause-kept : goal.returns-clause-kept
returns-clause-kept c =
    let es = c.args.self.now.entries.items in
    rw (c.in_ok-push.ensures.items, added es _ c.requires.indexed.some) (grind (arith, common_steps))

pub returns-clause-indexed : goal.returns-clause-indexed
returns-clause-indexed c = rw (c.in_ok-push.ensures.items) (one_more _ _ _ c.requires.indexed c.requires.room c.requires.is_new c.requires.found)
