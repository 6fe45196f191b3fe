use Rattle.std.proofs.Common.{◌≡◌, ℕ, List, [], ◌∷◌, Ok, Some, false, IfSome, refl, sym, ap, subst, ◌∙◌, rules}
use Rattle.serde_json.specs.View.{view}
use Rattle.ref_uri.specs.Targets.{uri_against, target, uri_part}
use Rattle.ref_uri.proofs.Hashes.{target-against}
use Rattle.ref_definitions.specs.Fault.{as_invalid_uri}
use Rattle.ref_definitions.specs.Resources.{meant_place}
use Rattle.ref_resolver.specs.Resolving.{resolver_of, world_of}
use Rattle.ref_resolver.specs.inner.Located.{IsMeant}
use Rattle.ref_resolver.specs.inner.Names.{is_name}
use Rattle.ref_resolver.proofs.Referring.{whole_leads}
use Rattle.ref_resolver.proofs.resolver.Resolver.elsewhere.Goals as goal

pub returns-in_default-clause-gives : goal.returns-in_default-clause-gives
returns-in_default-clause-gives c =
    let text = c.args.reference.now in
    let base = (resolver_of c.args.self.now).base in
    let same : target base text ≡ uri_against base c.parts.result.0.now = target-against base text c.requires.front ∙ ap (uri_against base) (sym c.parts.ensures.uri) in
    c.anew.ensures.gives text same (sym c.parts.ensures.fragment)

pub returns-in_default-whole_of-clause-gives : goal.returns-in_default-whole_of-clause-gives
returns-in_default-whole_of-clause-gives c =
    let text = c.args.reference.now in
    let base = (resolver_of c.args.self.now).base in
    let same : target base text ≡ uri_against base c.parts.result.0.now = target-against base text c.requires.front ∙ ap (uri_against base) (sym c.parts.ensures.uri) in
    c.within.ensures.gives text (same ∙ rw c.deref.ensures at c.in-Some.ensures.uri) (sym c.parts.ensures.fragment)

pub returns-clause-gives : goal.returns-clause-gives
returns-clause-gives c =
    let w = world_of c.args.self.now in
    let text = c.args.reference.now in
    let base = (resolver_of c.args.self.now).base in
    let same : target base text ≡ uri_against base c.parts.result.0.now = target-against base text c.requires.front ∙ ap (uri_against base) (sym c.parts.ensures.uri) in
    let uri : List ℕ = c.in-Some.uri.now.value in
    let place = c.in-Some-whole_of.place in
    let (known, empty) = c.in-Some-whole_of.ensures in
    let (p, there, at) = subst (λ o. IfSome o (IsMeant (meant_place w uri))) known c.in-Some.ensures.place in
    let part : [] ≡ c.parts.result.1.now = sym empty in
    let text_there : c.as_str.result.now ≡ uri = search rules in
    let copy : c.in_ok-clone.field-0.value ≡ uri = search rules in
    whole_leads w (resolver_of c.args.self.now) text uri [] p place (ap as_invalid_uri (same ∙ rw c.deref.ensures at c.in-Some.ensures.uri), part ∙ c.parts.ensures.fragment, there) at refl (λ rest is. absurd (cc))
    ∙ ap (λ s. Ok (record { value = view place.value.now; draft = place.entry.now.draft; resolver = record { base = uri; scope = s } })) (sym (rw text_there at c.in_ok-scope.ensures))
    ∙ ap (λ u. Ok (record { value = view place.value.now; draft = place.entry.now.draft; resolver = record { base = u; scope = c.in_ok-scope.scope } })) (sym copy)
