use Rattle.std.proofs.Common.{◌≡◌, Some, Ok, sym, ap, subst, ◌∙◌, rules}
use Rattle.ref_draft.specs.Anchors.{Plain, Dynamic}
use Rattle.ref_definitions.specs.Lookup.{Found, moved_resolver}
use Rattle.ref_error.specs.Errors.{Gives}
use Rattle.ref_resolver.specs.inner.Located.{IsNameAt}
use Rattle.ref_resolver.specs.Locations.{IsValueAt, anchor_spot, naming_uri, lookup_location, location_view}
use Rattle.ref_resolver.specs.Resolving.{resolver_of, world_of, found_of}
use Rattle.ref_resolver.proofs.Fragments.{plain_located}
use Rattle.ref_resolver.proofs.Names.{named_lookup}
use Rattle.ref_resolver.proofs.Spotting.{located_at, named_spot, plainly}
use Rattle.ref_resolver.proofs.Standing.{if_ok}
use Rattle.ref_resolver.proofs.resolver.Resolver.located_name.Goals as goal

pub returns-in_default-clause-gives : goal.returns-in_default-clause-gives
returns-in_default-clause-gives c = λ reference is fragment name. rw c.deref-in_default.ensures at c.no_name.ensures reference is fragment name (search rules)

pub returns-then-found-clause-gives : goal.returns-then-found-clause-gives
returns-then-found-clause-gives c = λ reference is fragment name.
    let w = world_of c.args.self.now in
    let text : c.as_str.result.now ≡ c.args.uri.value = search rules in
    let (n, same, called, means, (kind, at)) = named_lookup (IsNameAt w c.in-Some.found) w (resolver_of c.args.self.now) reference c.args.uri.value c.args.name.now c.as_str.result.now text is fragment name c.in-Some.ensures.value in
    let dynamic : n.kind ≡ Dynamic = sym kind ∙ search rules in
    subst (λ a. Gives (λ f. found_of f.0) a c.located_dynamic.result) (sym same) (c.located_dynamic.ensures.gives n called dynamic at.there.place means)

pub returns-clause-gives : goal.returns-clause-gives
returns-clause-gives c = λ reference is fragment name.
    let w = world_of c.args.self.now in
    let text : c.as_str.result.now ≡ c.args.uri.value = search rules in
    let (n, same, called, means, (kind, at)) = named_lookup (IsNameAt w c.in-Some.found) w (resolver_of c.args.self.now) reference c.args.uri.value c.args.name.now c.as_str.result.now text is fragment name c.in-Some.ensures.value in
    let plain : n.kind ≡ Plain = sym kind ∙ search rules in
    same ∙ plain_located w (moved_resolver (resolver_of c.args.self.now) c.args.uri.value) n c.in-Some.found.place.place plain at.there.place ∙ ap Ok (sym c.in_ok-located_at.ensures.found)

pub returns-clause-there : goal.returns-clause-there
returns-clause-there c =
    let w = world_of c.args.self.now in
    let (n, is, (kind, at)) = c.in-Some.ensures.value in
    subst (IsValueAt w c.in_ok-located_at.field-0.1) (sym at.there.place.value ∙ sym (ap (λ (f : Found). f.value) c.in_ok-located_at.ensures.found)) (c.in_ok-located_at.ensures.there w n.place at)

pub returns-then-found-clause-spot : goal.returns-then-found-clause-spot
returns-then-found-clause-spot c = λ reference is fragment name.
    let w = world_of c.args.self.now in
    let r = resolver_of c.args.self.now in
    let m = moved_resolver r c.args.uri.value in
    let text : c.as_str.result.now ≡ c.args.uri.value = search rules in
    let (n, same, called, means, (kind, at)) = named_lookup (IsNameAt w c.in-Some.found) w r reference c.args.uri.value c.args.name.now c.as_str.result.now text is fragment name c.in-Some.ensures.value in
    let dynamic : n.kind ≡ Dynamic = sym kind ∙ search rules in
    let spot = located_at w r reference c.args.uri.value c.args.name.now is fragment ∙ named_spot w m c.args.name.now n name means in
    if_ok (λ f. anchor_spot w (naming_uri w m n n.kind) c.args.name.now ≡ Some (location_view f.1)) (λ f. lookup_location w r reference ≡ Some (location_view f.1)) c.located_dynamic.result
    (λ f there. spot ∙ there) (c.located_dynamic.ensures.spot n called dynamic at.there.place means)

pub returns-clause-spot : goal.returns-clause-spot
returns-clause-spot c = λ reference is fragment name.
    let w = world_of c.args.self.now in
    let r = resolver_of c.args.self.now in
    let m = moved_resolver r c.args.uri.value in
    let text : c.as_str.result.now ≡ c.args.uri.value = search rules in
    let (n, same, called, means, (kind, at)) = named_lookup (IsNameAt w c.in-Some.found) w r reference c.args.uri.value c.args.name.now c.as_str.result.now text is fragment name c.in-Some.ensures.value in
    let plain : n.kind ≡ Plain = sym kind ∙ search rules in
    let there = rw text at c.in-Some.ensures.spot in
    located_at w r reference c.args.uri.value c.args.name.now is fragment ∙ named_spot w m c.args.name.now n name means
    ∙ ap (λ u. anchor_spot w u c.args.name.now) (plainly w m n plain) ∙ there ∙ ap Some (sym c.in_ok-located_at.ensures.spot)
