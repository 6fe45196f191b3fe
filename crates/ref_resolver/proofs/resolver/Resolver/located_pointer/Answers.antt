use Rattle.std.proofs.Common.{◌≡◌, [], sym, ap, subst, ◌∙◌, rules}
use Rattle.serde_json.specs.View.{view}
use Rattle.ref_definitions.specs.Lookup.{Resolver as Start}
use Rattle.ref_error.specs.Errors.{IsFaultOf}
use Rattle.ref_resolver.specs.inner.Leading.{at_pointer}
use Rattle.ref_resolver.specs.Resolving.{found_of}
use Rattle.ref_resolver.proofs.Standing.{pointed_there, stands_along}
use Rattle.ref_resolver.proofs.resolver.Resolver.located_pointer.Goals as goal

pub returns-in_err-resolved-clause-gives : goal.returns-in_err-resolved-clause-gives
returns-in_err-resolved-clause-gives c =
    let place = c.args.found.place in
    let text : c.as_str.result.now ≡ c.args.uri.value = search rules in
    let same = ap (λ s. at_pointer (record { base = c.args.uri.value; scope = s }) place.entry.now.draft c.args.pointer.now (view place.value.now) c.args.text.now) (rw text at c.in_ok-scope.ensures) in
    let fault = subst (λ a. IsFaultOf a c.in_err-resolved.field-0.0) same c.in_err-resolved.ensures.gives in
    search rules

pub returns-clause-gives : goal.returns-clause-gives
returns-clause-gives c =
    let place = c.args.found.place in
    let text : c.as_str.result.now ≡ c.args.uri.value = search rules in
    ap (λ s. at_pointer (record { base = c.args.uri.value; scope = s }) place.entry.now.draft c.args.pointer.now (view place.value.now) c.args.text.now) (sym (rw text at c.in_ok-scope.ensures)) ∙ c.in_ok-resolved.ensures.gives

pub returns-clause-there : goal.returns-clause-there
returns-clause-there c = λ w p at.
    let place = c.args.found.place in
    let start : Start = record { base = c.args.uri.value; scope = c.in_ok-scope.scope } in
    let leads = pointed_there start place.entry.now.draft c.args.pointer.now (view place.value.now) (view place.value.now) [] c.args.text.now (found_of c.in_ok-resolved.resolved) c.in_ok-resolved.ensures.gives in
    stands_along w c.args.found p c.in_ok-location.location start c.args.pointer.now c.args.text.now (found_of c.in_ok-resolved.resolved) at c.in_ok-resolved.ensures.gives (c.in_ok-location.ensures c.args.pointer.now leads.0)

pub returns-clause-spot : goal.returns-clause-spot
returns-clause-spot c =
    let place = c.args.found.place in
    let start : Start = record { base = c.args.uri.value; scope = c.in_ok-scope.scope } in
    let leads = pointed_there start place.entry.now.draft c.args.pointer.now (view place.value.now) (view place.value.now) [] c.args.text.now (found_of c.in_ok-resolved.resolved) c.in_ok-resolved.ensures.gives in
    c.in_ok-location.ensures c.args.pointer.now leads.0
