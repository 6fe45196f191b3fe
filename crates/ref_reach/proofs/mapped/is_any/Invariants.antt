use Rattle.std.proofs.Common.{◌≡◌, map, take}
use Rattle.std.specs.List.{list_any}
use Rattle.serde_json.specs.View.{view}
use Rattle.ref_reach.specs.Leading.{names_in}
use Rattle.ref_reach.proofs.mapped.is_any.Given as goal

abbrev pub invariant-loop-root : goal.invariant-loop-root
invariant-loop-root l = l.any ≡ list_any (names_in l.name) (map (λ v. view v.now) (take l.root-index l.roots))
