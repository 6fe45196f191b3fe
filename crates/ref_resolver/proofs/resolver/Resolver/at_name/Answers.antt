use Rattle.std.proofs.Common.{◌≡◌, Ok, sym, ap, subst, ◌∙◌, rules}
use Rattle.serde_json.specs.View.{view}
use Rattle.ref_draft.specs.Anchors.{Plain, Dynamic}
use Rattle.ref_definitions.specs.Lookup.{moved_resolver, named_found}
use Rattle.ref_error.specs.Errors.{Gives}
use Rattle.ref_resolver.specs.inner.Located.{IsNameOf}
use Rattle.ref_resolver.specs.Resolving.{resolver_of, world_of, found_of}
use Rattle.ref_resolver.proofs.Fragments.{plain_located}
use Rattle.ref_resolver.proofs.Names.{named_lookup}
use Rattle.ref_resolver.proofs.resolver.Resolver.at_name.Goals as goal

pub returns-in_default-clause-gives : goal.returns-in_default-clause-gives
returns-in_default-clause-gives c = λ reference is fragment name. rw c.deref-in_default.ensures at c.no_name.ensures reference is fragment name (search rules)

pub returns-then-found-clause-gives : goal.returns-then-found-clause-gives
returns-then-found-clause-gives c = λ reference is fragment name.
    let text : c.as_str.result.now ≡ c.args.uri.now.value = search rules in
    let (n, same, called, means, (kind, at)) = named_lookup (IsNameOf c.in-Some.found) (world_of c.args.self.now) (resolver_of c.args.self.now) reference c.args.uri.now.value c.args.name.now c.as_str.result.now text is fragment name c.in-Some.ensures in
    let dynamic : n.kind ≡ Dynamic = sym kind ∙ search rules in
    let copy : c.in_ok-clone.field-0.value ≡ c.args.uri.now.value = search rules in
    let found = c.at_dynamic.ensures.gives n called dynamic at in
    subst (λ a. Gives found_of a c.at_dynamic.result) (ap (λ u. named_found (world_of c.args.self.now) (moved_resolver (resolver_of c.args.self.now) u) n n.kind) copy ∙ sym same) found

pub returns-clause-gives : goal.returns-clause-gives
returns-clause-gives c = λ reference is fragment name.
    let w = world_of c.args.self.now in
    let text : c.as_str.result.now ≡ c.args.uri.now.value = search rules in
    let (n, same, called, means, (kind, at)) = named_lookup (IsNameOf c.in-Some.found) w (resolver_of c.args.self.now) reference c.args.uri.now.value c.args.name.now c.as_str.result.now text is fragment name c.in-Some.ensures in
    let plain : n.kind ≡ Plain = sym kind ∙ search rules in
    let text_there : c.as_str-2.result.now ≡ c.args.uri.now.value = search rules in
    let copy : c.in_ok-clone-2.field-0.value ≡ c.args.uri.now.value = search rules in
    same ∙ plain_located w (moved_resolver (resolver_of c.args.self.now) c.args.uri.now.value) n c.in-Some.found.place plain at
    ∙ ap (λ s. Ok (record { value = view c.in-Some.found.place.value.now; draft = c.in-Some.found.place.entry.now.draft; resolver = record { base = c.args.uri.now.value; scope = s } })) (sym (rw text_there at c.in_ok-scope.ensures))
    ∙ ap (λ u. Ok (record { value = view c.in-Some.found.place.value.now; draft = c.in-Some.found.place.entry.now.draft; resolver = record { base = u; scope = c.in_ok-scope.scope } })) (sym copy)
