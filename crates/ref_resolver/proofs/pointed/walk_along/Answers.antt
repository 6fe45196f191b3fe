use Rattle.std.proofs.Common.{sym, subst, ◌∙◌, rules}
use Rattle.serde_json.specs.View.{view}
use Rattle.ref_error.specs.Errors.{IsFaultOf, Gives}
use Rattle.ref_resolver.specs.inner.Walking.{along_of}
use Rattle.ref_resolver.proofs.Pointing.{walk_goes, walk_refused, walk_last}
use Rattle.ref_resolver.proofs.pointed.walk_along.Goals as goal

pub returns-in_err-step : goal.returns-in_err-step
returns-in_err-step c =
    let l = c.loop-token in
    let cut = rw c.in-Some.is at c.cut_at_slash.ensures in
    let e = c.in_err-step.field-0.0 in
    let ended = walk_refused c.args.walk.now.draft c.args.walk.now.pointer.now (along_of l.along) (view l.along.value.now) l.rest.now c.in-Some.token.now c.in-Some.more.now e cut c.in_err-step.ensures.gives in
    let fault = subst (λ a. IsFaultOf a e) (sym l.invariant.0) ended in
    search rules

pub loop-token-preserved : goal.loop-token-preserved
loop-token-preserved c =
    let l = c.loop-token in
    let cut = rw c.in-Some.is at c.cut_at_slash.ensures in
    let on = c.step.new.along in
    let goes = walk_goes c.args.walk.now.draft c.args.walk.now.pointer.now (along_of l.along) (view l.along.value.now) l.rest.now c.in-Some.token.now c.in-Some.more.now (view on.value.now, along_of on) cut c.in_ok-step.ensures.gives in
    (l.invariant.0 ∙ goes, search rules)

pub returns : goal.returns
returns c =
    let l = c.loop-token in
    let none = rw c.in_default.is at c.cut_at_slash.ensures in
    let on = c.step-2.new.along in
    let same = l.invariant.0 ∙ walk_last c.args.walk.now.draft c.args.walk.now.pointer.now (along_of l.along) (view l.along.value.now) l.rest.now none in
    record { gives = subst (λ a. Gives (λ _. (view on.value.now, along_of on)) a c.step-2.result) (sym same) c.step-2.ensures.gives }
