use Rattle.std.proofs.Common.{◌≡◌, List, ℕ, Ok, [], refl, sym, ap, ◌∙◌, rules}
use Rattle.serde_json.specs.View.{view}
use Rattle.ref_definitions.specs.Fault.{as_invalid_uri}
use Rattle.ref_resolver.specs.Resolving.{resolver_of, world_of}
use Rattle.ref_resolver.proofs.Referring.{whole_leads}
use Rattle.ref_resolver.proofs.resolver.Resolver.here.Goals as goal

pub returns-clause-gives : goal.returns-clause-gives
returns-clause-gives c = λ reference is part.
    let w = world_of c.args.self.now in
    let base : List ℕ = (resolver_of c.args.self.now).base in
    let place = c.args.place in
    let (p, there, at) = c.requires.known in
    let text_there : c.as_str.result.now ≡ base = search rules in
    let copy : c.in_ok-clone.field-0.value ≡ base = search rules in
    whole_leads w (resolver_of c.args.self.now) reference base [] p place (ap as_invalid_uri is, sym part, there) at refl (λ rest is. absurd (cc))
    ∙ ap (λ s. Ok (record { value = view place.value.now; draft = place.entry.now.draft; resolver = record { base = base; scope = s } })) (sym (rw text_there at c.in_ok-scope.ensures))
    ∙ ap (λ u. Ok (record { value = view place.value.now; draft = place.entry.now.draft; resolver = record { base = u; scope = c.in_ok-scope.scope } })) (sym copy)
