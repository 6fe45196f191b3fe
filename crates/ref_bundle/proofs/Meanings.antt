-- The URIs of references.
use Rattle.std.proofs.Common.{◌≡◌, List, [], ◌∷◌, map, refl, ap}
use Rattle.ref_bundle.specs.Needed.{Reference}
use Rattle.ref_bundle.specs.inner.Seen.{seen_reference}
use Rattle.ref_bundle.specs.declared.uris.Reference as rust

pub uris_seen : (rs : List rust.Reference) → map (λ r. r.uri.value) rs ≡ map (λ (r : Reference). r.uri) (map seen_reference rs)
uris_seen [] = refl
uris_seen (r ∷ rs) = ap (λ us. r.uri.value ∷ us) (uris_seen rs)
