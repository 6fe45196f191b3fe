use Rattle.std.proofs.Common.{◌≡◌, ◌++◌, map}
use Rattle.serde_json.specs.Data.{string}
use Rattle.serde_json.specs.View.{view}
use Rattle.ref_vocabularies.specs.Vocabularies.{all_known}
use Rattle.ref_serve.specs.Listings.{known_uris}
use Rattle.ref_serve.proofs.vocabularies.uris_of.Given as goal

abbrev pub invariant-loop-uri : goal.invariant-loop-uri
invariant-loop-uri l =
    map view l.list.items ++ map (λ t. string t) l.uri-iterator ≡ map (λ t. string t) (known_uris l.set all_known ++ l.set.customs)
