use Rattle.std.proofs.Common.{◌≡◌, None, option_map}
use Rattle.std.specs.List.{last_or}
use Rattle.ref_resolver.proofs.fragment.last_of.Given as goal

abbrev pub invariant-loop-uri : goal.invariant-loop-uri
invariant-loop-uri l = last_or (option_map (λ uri. uri.now) l.last) l.uri-iterator ≡ last_or None l.uris
