use Rattle.std.proofs.Common.{◌≡◌, Some, ap, sym, ◌∙◌, rules}
use Rattle.std.specs.Option.{option_or}
use Rattle.ref_bundle.specs.Saying.{obstacle_said}
use Rattle.ref_bundle.specs.inner.Seen.{part_document}
use Rattle.ref_bundle.specs.inner.Obstacles.{tree_obstacle, uri_obstacle}
use Rattle.ref_bundle.proofs.Trees.{obstacle_is}
use Rattle.ref_bundle.proofs.embedding.obstacle.Goals as goal

pub returns-in-Some : goal.returns-in-Some
returns-in-Some c =
    let top = part_document c.args.top.now in
    let d = part_document c.args.part.now in
    let first : Some (obstacle_said c.in-Some.obstacle) ≡ tree_obstacle d = search rules in
    record { value = ap (λ o. option_or o (uri_obstacle top d)) first ∙ sym (obstacle_is top d) }
