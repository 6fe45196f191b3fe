use Rattle.std.proofs.Common.{◌≡◌, ◌++◌, [], ◌∷◌, Option, Some, map, flat_map, option_map, ap, sym, ◌∙◌, rules}
use Rattle.std.specs.Option.{option_map_or, option_to_list}
use Rattle.ref_paths.specs.Segment.{part_of}
use Rattle.ref_bundle.specs.Needed.{Site, sites_of_uris}
use Rattle.ref_bundle.specs.Bundle.{Problem, SharedUri, shared_uri, other_bearer}
use Rattle.ref_bundle.specs.inner.Tables.{site_of}
use Rattle.ref_bundle.specs.inner.First.{first}
use Rattle.ref_bundle.proofs.refusing.shared_uri.Goals as goal

pub returns : goal.returns
returns c =
    let u = c.in-Some.uri.now in
    let other = c.in-Some-other.site.now in
    let at : Site = (c.args.spot.now.document, map part_of c.args.spot.now.path.items) in
    let f : Option Site → Option Problem = λ o. first (option_map_or (λ s. SharedUri u s.0 s.1 ∷ []) o [] ++ []) in
    let copy : c.in_ok-new.field-0.value ≡ u = search rules in
    let path : map part_of c.in_ok-copied.field-0.items ≡ map part_of other.path.items = search rules in
    let given : option_map (λ u. u.now) c.args.uri ≡ Some u = search rules in
    let spot : map part_of c.as_slice.result.now ≡ map part_of c.args.spot.now.path.items = search rules in
    let text : c.as_str.result.now ≡ u = search rules in
    λ layer are.
    let meets : option_map (λ s. site_of s.now) c.other.result ≡ Some (site_of other) = search rules in
    let found : other_bearer (sites_of_uris layer) u at ≡ Some (site_of other) =
    ap (λ p. other_bearer (sites_of_uris layer) u (c.args.spot.now.document, p)) (sym spot) ∙ ap (λ t. other_bearer (sites_of_uris layer) t (c.args.spot.now.document, map part_of c.as_slice.result.now)) (sym text) ∙ sym (c.other.ensures.value layer are) ∙ meets in
    ap (λ v. Some (SharedUri v other.document (map part_of c.in_ok-copied.field-0.items))) copy
    ∙ ap (λ p. Some (SharedUri u other.document p)) path
    ∙ sym (ap f found)
    ∙ sym (ap (λ o. first (flat_map (shared_uri (sites_of_uris layer) at) (option_to_list o))) given)
