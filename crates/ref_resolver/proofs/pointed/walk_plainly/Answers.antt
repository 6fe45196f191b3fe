use Rattle.std.proofs.Common.{◌≢◌, All, refl, sym, subst, ◌∙◌, rules}
use Rattle.serde_json.specs.View.{view}
use Rattle.ref_resolver.specs.inner.Walking.{along_of}
use Rattle.ref_resolver.proofs.Cutting.{before_mark, without_mark, in_neither}
use Rattle.ref_resolver.proofs.Pointing.{walk_goes, walk_last}
use Rattle.ref_resolver.proofs.pointed.walk_plainly.Goals as goal

pub step_plainly-requires : goal.step_plainly-requires
step_plainly-requires c =
    let (less, (slash, percent, tilde)) = before_mark c.loop-place.rest.now c.in-Some.place (sym c.mark_in.ensures ∙ c.in-Some.is) in
    record { plain = subst (All (λ b. b ≢ 126)) (sym c.cut_at.ensures.token) tilde }

pub loop-place-preserved : goal.loop-place-preserved
loop-place-preserved c =
    let l = c.loop-place in
    let token = c.cut_at.result.0.now in
    let more = c.cut_at.result.1.now in
    let on = c.step_plainly.new.along in
    let (less, (slash, percent, tilde)) = before_mark l.rest.now c.in-Some.place (sym c.mark_in.ensures ∙ c.in-Some.is) in
    let goes = walk_goes c.args.walk.now.draft c.args.walk.now.pointer.now (along_of l.along) (view l.along.value.now) l.rest.now token more (view on.value.now, along_of on) (c.cut_at.ensures.cut, subst (All (λ b. b ≢ 47)) (sym c.cut_at.ensures.token) slash) (c.if-not-step_plainly.ensures.steps refl) in
    (l.invariant.0 ∙ goes, λ rest. l.invariant.1 (in_neither 37 l.rest.now token more c.cut_at.ensures.cut (λ is. cc) (subst (All (λ b. b ≢ 37)) (sym c.cut_at.ensures.token) percent) rest), search rules)

pub step_plainly-requires-2 : goal.step_plainly-requires-2
step_plainly-requires-2 c = record { plain = (without_mark c.loop-place.rest.now (sym c.mark_in.ensures ∙ c.in_default.is)).2 }

pub returns-clause-decoded : goal.returns-clause-decoded
returns-clause-decoded c = λ done. c.loop-place.invariant.1 (without_mark c.loop-place.rest.now (sym c.mark_in.ensures ∙ c.in_default.is)).1

pub returns-clause-passed : goal.returns-clause-passed
returns-clause-passed c = λ done.
    let l = c.loop-place in
    let none = (without_mark l.rest.now (sym c.mark_in.ensures ∙ c.in_default.is)).0 in
    l.invariant.0 ∙ walk_last c.args.walk.now.draft c.args.walk.now.pointer.now (along_of l.along) (view l.along.value.now) l.rest.now none ∙ c.step_plainly-2.ensures.steps done
