use Rattle.std.proofs.Common.{◌≡◌, [], None, Some, cond, IfOk, flat_map, option_map, sym, subst}
use Rattle.std.specs.Option.{option_to_list}
use Rattle.ref_paths.specs.Path.{path_eq}
use Rattle.ref_bundle.specs.Needed.{sites_of_uris}
use Rattle.ref_bundle.specs.Bundle.{shared_uri}
use Rattle.ref_bundle.specs.Saying.{problem_said, seen_spot}
use Rattle.ref_bundle.specs.inner.Seen.{own_uri_of}
use Rattle.ref_bundle.specs.inner.First.{first, first_found, shared_seen}
use Rattle.ref_bundle.proofs.Firsts.{passed_on, shared_parts}
use Rattle.ref_bundle.proofs.refusing.shared_uris.Goals as goal

pub returns : goal.returns
returns c = λ layer are.
    let s = seen_spot c.args.spot.now in
    let uri = c.args.own.now.uri.now in
    let f = shared_uri (sites_of_uris layer) (s.document, s.path) in
    let found = c.shared_uri.result in
    let other = c.shared_uri-2.result in
    let front = subst (λ o. IfOk found (λ p. option_map problem_said p ≡ first (flat_map f (option_to_list o)))) c.root_uri.ensures.value (c.shared_uri.ensures layer are) in
    let back = subst (λ o. IfOk other (λ p. option_map problem_said p ≡ first (flat_map f (option_to_list o)))) c.own_ref.ensures (c.shared_uri-2.ensures layer are) in
    let both = passed_on problem_said (flat_map f (option_to_list (cond (path_eq s.path []) (Some uri) None))) (flat_map f (option_to_list (own_uri_of s))) found other front back in
    subst (λ o. IfOk o (λ p. option_map problem_said p ≡ first (shared_seen layer uri s))) (sym c.first_found.ensures.value)
    (subst (λ l. IfOk (first_found found other) (λ p. option_map problem_said p ≡ first l)) (shared_parts layer uri s) both)
