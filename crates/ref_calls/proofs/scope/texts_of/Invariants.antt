use Rattle.std.proofs.Common.{◌≡◌, ◌++◌, map, drop}
use Rattle.serde_json.specs.Data.{string}
use Rattle.serde_json.specs.View.{view}
use Rattle.ref_calls.proofs.scope.texts_of.Given as goal

abbrev pub invariant-loop-uri : goal.invariant-loop-uri
invariant-loop-uri l =
    map view l.list.items ++ map (λ t. string t) (map (λ u. u.now) (drop l.uri-index l.uris)) ≡ map (λ t. string t) (map (λ u. u.now) l.uris)
