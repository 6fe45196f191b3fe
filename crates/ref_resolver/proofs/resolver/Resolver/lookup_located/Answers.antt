use Rattle.std.proofs.Common.{◌≡◌, ℕ, List, Some, Ok, true, false, lit<, sym, ap, subst, ◌∙◌, rules}
use Rattle.std.proofs.lemmas.Str.Pattern.{strip_prefix_char}
use Rattle.percent_encoding.specs.Percent.{percent_decode}
use Rattle.serde_json.specs.View.{view}
use Rattle.ref_parts.specs.Pointer.{tokens}
use Rattle.ref_uri.specs.Targets.{target}
use Rattle.ref_definitions.specs.Resources.{meant_place}
use Rattle.ref_definitions.specs.Lookup.{moved_resolver}
use Rattle.ref_error.specs.Errors.{Gives}
use Rattle.ref_error.proofs.Saying.{uri_meant}
use Rattle.ref_index.specs.Spots.{Spot, spot_of}
use Rattle.ref_resolver.specs.Locations.{uri_spot, lookup_location, location_view, with_parts, parts_along}
use Rattle.ref_resolver.specs.Resolving.{resolver_of, world_of, found_of}
use Rattle.ref_resolver.specs.inner.Names.{is_name}
use Rattle.ref_resolver.proofs.Referring.{refused_gives, pointer_leads, whole_leads, absent_says}
use Rattle.ref_resolver.proofs.Spotting.{located_at, whole_spot, pointed_spot}
use Rattle.ref_resolver.proofs.Standing.{if_ok}
use Rattle.ref_resolver.proofs.resolver.Resolver.lookup_located.Goals as goal

pub returns-in_err-uri-clause-gives : goal.returns-in_err-uri-clause-gives
returns-in_err-uri-clause-gives c =
    refused_gives (λ f. found_of f.0) (world_of c.args.self.now) (resolver_of c.args.self.now) c.args.reference.now c.in_err-uri.field-0.0 c.from_residual.result c.in_err-uri.ensures.gives (search rules)

pub returns-in_default-clause-gives : goal.returns-in_default-clause-gives
returns-in_default-clause-gives c =
    absent_says (world_of c.args.self.now) (resolver_of c.args.self.now) c.args.reference.now c.in_ok-uri.uri.value c.not_retrieved.result c.in_ok-uri.ensures.gives (search rules) (rw c.deref-in_default.ensures at c.not_retrieved.ensures.fault)

pub returns-in-Some-strip_prefix-clause-gives : goal.returns-in-Some-strip_prefix-clause-gives
returns-in-Some-strip_prefix-clause-gives c =
    let w = world_of c.args.self.now in
    let r = resolver_of c.args.self.now in
    let uri : List ℕ = c.in_ok-uri.uri.value in
    let fragment = c.in_ok-uri.fragment.now in
    let (p, is, at) = c.in-Some.ensures.value in
    let text : c.as_str.result.now ≡ uri = search rules in
    let slash = rw c.in-Some-strip_prefix.is at (strip_prefix_char 47 fragment c.strip_prefix.result c.strip_prefix.ensures.cases (lit< tt)) in
    let same = pointer_leads w r c.args.reference.now uri fragment p c.in-Some.place.place c.in-Some-strip_prefix.text.now (c.in_ok-uri.ensures.gives, c.in_ok-uri.ensures.fragment, ap (meant_place w) (sym text) ∙ is) at.there.place slash in
    subst (λ a. Gives (λ f. found_of f.0) a c.located_pointer.result) (sym same) c.located_pointer.ensures.gives

pub returns-in-Some-strip_prefix-clause-there : goal.returns-in-Some-strip_prefix-clause-there
returns-in-Some-strip_prefix-clause-there c =
    let (p, is, at) = c.in-Some.ensures.value in
    c.located_pointer.ensures.there (world_of c.args.self.now) p at

pub returns-in-Some-strip_prefix-clause-spot : goal.returns-in-Some-strip_prefix-clause-spot
returns-in-Some-strip_prefix-clause-spot c =
    let w = world_of c.args.self.now in
    let r = resolver_of c.args.self.now in
    let uri : List ℕ = c.in_ok-uri.uri.value in
    let fragment = c.in_ok-uri.fragment.now in
    let place = c.in-Some.place in
    let (p, is, at) = c.in-Some.ensures.value in
    let text : c.as_str.result.now ≡ uri = search rules in
    let slash = rw c.in-Some-strip_prefix.is at (strip_prefix_char 47 fragment c.strip_prefix.result c.strip_prefix.ensures.cases (lit< tt)) in
    let rest = c.in-Some-strip_prefix.text.now in
    let spot : ℕ × Spot = (place.layer, spot_of place.place.entry.now) in
    let parts = tokens (percent_decode rest) in
    let same = located_at w r c.args.reference.now uri fragment (uri_meant (target r.base c.args.reference.now) uri c.in_ok-uri.ensures.gives) (sym c.in_ok-uri.ensures.fragment)
    ∙ pointed_spot w (moved_resolver r uri) p spot fragment rest slash (ap (meant_place w) (sym text) ∙ is) (ap (uri_spot w) (sym text) ∙ c.in-Some.ensures.spot)
    ∙ ap (λ v. Some (with_parts (parts_along fragment v parts) spot)) (sym at.there.place.value) in
    if_ok (λ f. location_view f.1 ≡ with_parts (parts_along fragment (view place.place.value.now) parts) spot) (λ f. lookup_location w r c.args.reference.now ≡ Some (location_view f.1)) c.located_pointer.result
    (λ f there. same ∙ ap Some (sym there)) c.located_pointer.ensures.spot

pub returns-in_ok-located_at-in-None-clause-gives : goal.returns-in_ok-located_at-in-None-clause-gives
returns-in_ok-located_at-in-None-clause-gives c =
    let w = world_of c.args.self.now in
    let uri : List ℕ = c.in_ok-uri.uri.value in
    let fragment = c.in_ok-uri.fragment.now in
    let (p, is, at) = c.in-Some.ensures.value in
    let text : c.as_str.result.now ≡ uri = search rules in
    let none = rw c.in-None.is at (strip_prefix_char 47 fragment c.strip_prefix.result c.strip_prefix.ensures.cases (lit< tt)) in
    let name : is_name fragment ≡ false = sym c.is_name.ensures ∙ c.if-is_name.false in
    whole_leads w (resolver_of c.args.self.now) c.args.reference.now uri fragment p c.in-Some.place.place (c.in_ok-uri.ensures.gives, c.in_ok-uri.ensures.fragment, ap (meant_place w) (sym text) ∙ is) at.there.place name none
    ∙ ap Ok (sym c.in_ok-located_at-in-None.ensures.found)

pub returns-in_ok-located_at-in-None-clause-spot : goal.returns-in_ok-located_at-in-None-clause-spot
returns-in_ok-located_at-in-None-clause-spot c =
    let w = world_of c.args.self.now in
    let r = resolver_of c.args.self.now in
    let uri : List ℕ = c.in_ok-uri.uri.value in
    let fragment = c.in_ok-uri.fragment.now in
    let text : c.as_str.result.now ≡ uri = search rules in
    let none = rw c.in-None.is at (strip_prefix_char 47 fragment c.strip_prefix.result c.strip_prefix.ensures.cases (lit< tt)) in
    let name : is_name fragment ≡ false = sym c.is_name.ensures ∙ c.if-is_name.false in
    located_at w r c.args.reference.now uri fragment (uri_meant (target r.base c.args.reference.now) uri c.in_ok-uri.ensures.gives) (sym c.in_ok-uri.ensures.fragment) ∙ whole_spot w (moved_resolver r uri) fragment name none
    ∙ ap (uri_spot w) (sym text) ∙ c.in-Some.ensures.spot ∙ ap Some (sym c.in_ok-located_at-in-None.ensures.spot)

pub returns-then-is_name-clause-gives : goal.returns-then-is_name-clause-gives
returns-then-is_name-clause-gives c =
    let name : is_name c.in_ok-uri.fragment.now ≡ true = sym c.is_name.ensures ∙ c.if-is_name.true in
    let means = uri_meant (target (resolver_of c.args.self.now).base c.args.reference.now) c.in_ok-uri.uri.value c.in_ok-uri.ensures.gives in
    c.located_name.ensures.gives c.args.reference.now means (sym c.in_ok-uri.ensures.fragment) name

pub returns-then-is_name-clause-spot : goal.returns-then-is_name-clause-spot
returns-then-is_name-clause-spot c =
    let name : is_name c.in_ok-uri.fragment.now ≡ true = sym c.is_name.ensures ∙ c.if-is_name.true in
    let means = uri_meant (target (resolver_of c.args.self.now).base c.args.reference.now) c.in_ok-uri.uri.value c.in_ok-uri.ensures.gives in
    c.located_name.ensures.spot c.args.reference.now means (sym c.in_ok-uri.ensures.fragment) name
