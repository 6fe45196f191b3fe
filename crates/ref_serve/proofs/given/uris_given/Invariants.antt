use Rattle.std.proofs.Common.{◌≡◌, ◌++◌, map, drop, option_map}
use Rattle.ref_calls.specs.Given.{given_of}
use Rattle.ref_serve.specs.Opening.{uri_given}
use Rattle.ref_serve.proofs.given.uris_given.Given as goal

abbrev pub invariant-loop-document : goal.invariant-loop-document
invariant-loop-document l =
    map (option_map (λ u. u)) l.uris.items ++ map uri_given (map (λ d. d.0) (map given_of (drop l.document-index l.documents))) ≡ map uri_given (map (λ d. d.0) (map given_of l.documents))
