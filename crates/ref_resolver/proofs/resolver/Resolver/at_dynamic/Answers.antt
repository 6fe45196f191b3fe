use Rattle.std.proofs.Common.{sym, subst, rules, ◌∙◌}
use Rattle.ref_error.specs.Errors.{IsFaultOf, Gives}
use Rattle.ref_resolver.specs.Resolving.{found_of}
use Rattle.ref_resolver.proofs.Dynamically.{named_moved, scope_refused, scope_leads}
use Rattle.ref_resolver.proofs.resolver.Resolver.at_dynamic.Goals as goal

pub returns-in_err-uri-clause-gives : goal.returns-in_err-uri-clause-gives
returns-in_err-uri-clause-gives c = λ n name dynamic at.
    let there = c.in_ok-resolver.resolver in
    let moved = named_moved c.args.self.now there c.args.uri.value n c.in_ok-resolver.ensures.world c.in_ok-resolver.ensures.resolver in
    let fault = subst (λ a. IsFaultOf a c.in_err-uri.field-0.0) (sym moved) (scope_refused there c.args.name.now n c.in_err-uri.field-0.0 (name, dynamic) (c.in_err-uri.ensures.fault n at)) in
    search rules

pub returns-clause-gives : goal.returns-clause-gives
returns-clause-gives c = λ n name dynamic at.
    let there = c.in_ok-resolver.resolver in
    let moved = named_moved c.args.self.now there c.args.uri.value n c.in_ok-resolver.ensures.world c.in_ok-resolver.ensures.resolver in
    let same = moved ∙ scope_leads there c.args.name.now n c.in_ok-uri.uri.now c.in_ok-uri.place (name, dynamic) (c.in_ok-uri.ensures.ok n at) in
    subst (λ a. Gives found_of a c.under_uri.result) (sym same) c.under_uri.ensures.gives
