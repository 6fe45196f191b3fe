use Rattle.std.proofs.Common.{◌≡◌, ◌++◌, map, drop, option_map}
use Rattle.serde_json.specs.View.{view}
use Rattle.ref_serve.specs.Opening.{number_given}
use Rattle.ref_serve.proofs.given.numbers_given.Given as goal

abbrev pub invariant-loop-uri : goal.invariant-loop-uri
invariant-loop-uri l =
    map view l.list.items ++ map (number_given l.registry) (map (option_map (λ u. u)) (drop l.uri-index l.uris)) ≡ map (number_given l.registry) (map (option_map (λ u. u)) l.uris)
