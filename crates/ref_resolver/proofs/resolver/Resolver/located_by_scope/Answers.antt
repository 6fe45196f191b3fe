use Rattle.std.proofs.Common.{◌≡◌, Some, Err, sym, ap, subst, ◌∙◌, rules}
use Rattle.ref_definitions.specs.Anchors.{anchor, not_named}
use Rattle.ref_error.specs.Errors.{IsFaultOf}
use Rattle.ref_resolver.specs.Locations.{anchor_spot}
use Rattle.ref_resolver.specs.Resolving.{resolver_of, world_of}
use Rattle.ref_resolver.proofs.Dynamically.{scope_refused, scope_leads_there, scope_means}
use Rattle.ref_resolver.proofs.Naming.{fault_ok}
use Rattle.ref_resolver.proofs.Spotting.{naming_scope}
use Rattle.ref_resolver.proofs.resolver.Resolver.located_by_scope.Goals as goal

pub returns-in_err-uri-clause-gives : goal.returns-in_err-uri-clause-gives
returns-in_err-uri-clause-gives c = λ n name dynamic at means.
    let fault = scope_refused c.args.self.now c.args.name.now n c.in_err-uri.field-0.0 (name, dynamic) (c.in_err-uri.ensures.fault n at) in
    search rules

pub returns-in_default-clause-gives : goal.returns-in_default-clause-gives
returns-in_default-clause-gives c = λ n name dynamic at means.
    let w = world_of c.args.self.now in
    let text : c.as_str.result.now ≡ c.in_ok-uri.uri.now = search rules in
    let (m, here) = scope_means c.args.self.now c.args.name.now n c.in_ok-uri.uri.now c.as_str.result.now means text (c.in_ok-uri.ensures.ok n at) in
    let none : anchor w c.as_str.result.now c.args.name.now ≡ Err (not_named c.args.name.now) = search rules in
    absurd (fault_ok (anchor w c.as_str.result.now c.args.name.now) (not_named c.args.name.now) m none here)

pub returns-in_err-resolved-clause-gives : goal.returns-in_err-resolved-clause-gives
returns-in_err-resolved-clause-gives c = λ n name dynamic at means.
    let text : c.as_str.result.now ≡ c.in_ok-uri.uri.now = search rules in
    let (k, is, (kind, there)) = c.in-Some.ensures.value in
    let same = scope_leads_there c.args.self.now c.args.name.now n k c.in_ok-uri.uri.now c.as_str.result.now c.in-Some.found.place.place (name, dynamic) means text (c.in_ok-uri.ensures.ok n at) is there.there.place in
    let fault = subst (λ a. IsFaultOf a c.in_err-resolved.field-0.0) (sym same) c.in_err-resolved.ensures.gives in
    search rules

pub returns-clause-gives : goal.returns-clause-gives
returns-clause-gives c = λ n name dynamic at means.
    let text : c.as_str.result.now ≡ c.in_ok-uri.uri.now = search rules in
    let (k, is, (kind, there)) = c.in-Some.ensures.value in
    scope_leads_there c.args.self.now c.args.name.now n k c.in_ok-uri.uri.now c.as_str.result.now c.in-Some.found.place.place (name, dynamic) means text (c.in_ok-uri.ensures.ok n at) is there.there.place
    ∙ c.in_ok-resolved.ensures.gives

pub returns-clause-spot : goal.returns-clause-spot
returns-clause-spot c = λ n name dynamic at means.
    let w = world_of c.args.self.now in
    let (k, outer, is_at_path, named, last) = c.in_ok-uri.ensures.ok n at in
    let text : c.as_str.result.now ≡ c.in_ok-uri.uri.now = search rules in
    let naming = naming_scope w (resolver_of c.args.self.now) n c.args.name.now name dynamic ∙ last ∙ sym text in
    ap (λ u. anchor_spot w u c.args.name.now) naming ∙ c.in-Some.ensures.spot ∙ ap Some (sym c.in_ok-location.ensures.spot)
