use Rattle.std.proofs.Common.{◌≡◌, ℕ, List, Ok, false, lit<, sym, ap, subst, ◌∙◌, rules}
use Rattle.std.proofs.lemmas.Str.Pattern.{strip_prefix_char}
use Rattle.serde_json.specs.View.{view}
use Rattle.ref_definitions.specs.Fault.{as_invalid_uri}
use Rattle.ref_definitions.specs.Resources.{meant_place}
use Rattle.ref_error.specs.Errors.{Gives}
use Rattle.ref_resolver.specs.Resolving.{resolver_of, world_of, found_of}
use Rattle.ref_resolver.specs.inner.Leading.{at_pointer}
use Rattle.ref_resolver.proofs.Referring.{pointer_leads, whole_leads, absent_says}
use Rattle.ref_resolver.proofs.resolver.Resolver.at_place.Goals as goal

pub returns-in_default-clause-gives : goal.returns-in_default-clause-gives
returns-in_default-clause-gives c = λ reference is part.
    absent_says (world_of c.args.self.now) (resolver_of c.args.self.now) reference c.args.uri.now.value c.not_retrieved.result (ap as_invalid_uri is) (search rules) (rw c.deref-in_default.ensures at c.not_retrieved.ensures.fault)

pub returns-in-Some-strip_prefix-clause-gives : goal.returns-in-Some-strip_prefix-clause-gives
returns-in-Some-strip_prefix-clause-gives c = λ reference is part.
    let place = c.in-Some.place in
    let w = world_of c.args.self.now in
    let uri : List ℕ = c.args.uri.now.value in
    let fragment = c.args.fragment.now in
    let rest = c.in-Some-strip_prefix.text.now in
    let (p, there, at) = c.in-Some.ensures.value in
    let text : c.as_str.result.now ≡ uri = search rules in
    let text_there : c.as_str-2.result.now ≡ uri = search rules in
    let copy : c.in_ok-clone.field-0.value ≡ uri = search rules in
    let slash = rw c.in-Some-strip_prefix.is at (strip_prefix_char 47 fragment c.strip_prefix.result c.strip_prefix.ensures.cases (lit< tt)) in
    let same = pointer_leads w (resolver_of c.args.self.now) reference uri fragment p place rest (ap as_invalid_uri is, sym part, ap (meant_place w) (sym text) ∙ there) at slash
    ∙ ap (λ s. at_pointer (record { base = uri; scope = s }) place.entry.now.draft fragment (view place.value.now) rest) (sym (rw text_there at c.in_ok-scope.ensures))
    ∙ ap (λ u. at_pointer (record { base = u; scope = c.in_ok-scope.scope }) place.entry.now.draft fragment (view place.value.now) rest) (sym copy) in
    subst (λ a. Gives found_of a c.at_pointer.result) (sym same) c.at_pointer.ensures.gives

pub returns-clause-gives : goal.returns-clause-gives
returns-clause-gives c = λ reference is part.
    let w = world_of c.args.self.now in
    let uri : List ℕ = c.args.uri.now.value in
    let fragment = c.args.fragment.now in
    let (p, there, at) = c.in-Some.ensures.value in
    let text : c.as_str.result.now ≡ uri = search rules in
    let text_there : c.as_str-2.result.now ≡ uri = search rules in
    let none = rw c.in_default-strip_prefix.is at (strip_prefix_char 47 fragment c.strip_prefix.result c.strip_prefix.ensures.cases (lit< tt)) in
    let place = c.in-Some.place in
    let copy : c.in_ok-clone-2.field-0.value ≡ uri = search rules in
    whole_leads w (resolver_of c.args.self.now) reference uri fragment p place (ap as_invalid_uri is, sym part, ap (meant_place w) (sym text) ∙ there) at c.requires.name none
    ∙ ap (λ s. Ok (record { value = view place.value.now; draft = place.entry.now.draft; resolver = record { base = uri; scope = s } })) (sym (rw text_there at c.in_ok-scope.ensures))
    ∙ ap (λ u. Ok (record { value = view place.value.now; draft = place.entry.now.draft; resolver = record { base = u; scope = c.in_ok-scope.scope } })) (sym copy)
