use Rattle.std.proofs.Common.{◌≡◌, Some, rules, subst}
use Rattle.serde_json.specs.View.{view}
use Rattle.serde_json.specs.Data.{Data}
use Rattle.ref_draft.specs.declared.reached.Reached.{Reached}
use Rattle.ref_definitions.specs.Places.{base_within}
use Rattle.ref_definitions.specs.Fault.{as_invalid_uri}
use Rattle.ref_error.specs.Errors.{IsFaultOf}
use Rattle.ref_resolver.specs.inner.Walking.{along_of, accepted_id}
use Rattle.ref_resolver.proofs.Pointing.{step_refused}
use Rattle.ref_resolver.proofs.pointed.step.Goals as goal

pub returns-in_err-uri : goal.returns-in_err-uri
returns-in_err-uri c =
    let passed = along_of c.args.along.now in
    let there = c.step_into.new.along in
    let s : Reached × Data = (there.reached, view there.value.now) in
    let draft = c.args.walk.now.draft in
    let accepted : Some c.in-Some.id.now ≡ accepted_id draft s.0 s.1 = search rules in
    let base : c.borrow.result ≡ passed.base = search rules in
    let here = subst (λ b. IsFaultOf (as_invalid_uri (base_within b (Some c.in-Some.id.now))) c.in_err-uri.field-0.0) base c.in_err-uri.ensures.gives in
    let at_id = subst (λ i. IsFaultOf (as_invalid_uri (base_within passed.base i)) c.in_err-uri.field-0.0) accepted here in
    let fault = step_refused draft c.args.walk.now.pointer.now passed (view c.args.along.now.value.now) c.args.token.now s c.in_err-uri.field-0.0 c.in_ok-step_into.ensures.gives at_id in
    search rules

pub returns : goal.returns
returns c = search rules
