use Rattle.std.proofs.Common.{◌≡◌, ◌++◌, map, drop}
use Rattle.serde_json.specs.Data.{string}
use Rattle.serde_json.specs.View.{view}
use Rattle.ref_serve.proofs.about.names.Given as goal

abbrev pub invariant-loop-name : goal.invariant-loop-name
invariant-loop-name l =
    map view l.list.items ++ map (λ t. string t) (map (λ n. n.now) (drop l.name-index l.name-items)) ≡ map (λ t. string t) (map (λ n. n.now) l.name-items)
