use Rattle.std.proofs.Common.{◌≡◌, ◌+◌, ◌-◌, ◌∷◌, arith}
use Rattle.std.proofs.lemmas.Grind.{common_steps}
use Rattle.ref_yaml.specs.Flow.{feeds}
use Rattle.ref_yaml.proofs.LineFeeds.{feeds_more}
use Rattle.ref_yaml.proofs.fold.push_feeds.Goals as goal

pub loop-preserved : goal.loop-preserved
loop-preserved c =
    let e : feeds (c.args.count - c.loop.counter) ≡ 10 ∷ feeds (c.args.count - (c.loop.counter + 1)) = feeds_more c.args.count c.loop.counter (omega arith) in
    grind (arith, common_steps)
