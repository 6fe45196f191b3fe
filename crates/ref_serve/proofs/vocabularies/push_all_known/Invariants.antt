use Rattle.std.proofs.Common.{map, drop}
use Rattle.serde_json.specs.View.{view}
use Rattle.ref_serve.proofs.KnownVocabularies.{IsLeft}
use Rattle.ref_serve.proofs.vocabularies.push_all_known.Given as goal

abbrev pub invariant-loop-uri : goal.invariant-loop-uri
invariant-loop-uri l = IsLeft l.set (map (λ t. t.now) (drop l.uri-index l.uris)) (map view l.list.items) (map view l.initial.list.items)
