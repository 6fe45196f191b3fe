use Rattle.std.proofs.Common.{◌≡◌, option_map, None, Some, ap, sym, ◌∙◌}
use Rattle.serde_json.specs.View.{view}
use Rattle.ref_resolver.proofs.located.place_at.Goals as goal

pub returns-in_err-value-clause-place : goal.returns-in_err-value-clause-place
returns-in_err-value-clause-place c = λ p is.
    let there : option_map (λ v. view v.now) c.value.result ≡ Some p.value = c.value.ensures.value p is in
    let none : option_map (λ v. view v.now) c.value.result ≡ None = ap (option_map (λ v. view v.now)) c.in_err-value.was in
    absurd (let e : None ≡ Some p.value = sym none ∙ there in cc)

pub returns-clause-place : goal.returns-clause-place
returns-clause-place c = λ p is.
    let there : option_map (λ v. view v.now) c.value.result ≡ Some p.value = c.value.ensures.value p is in
    let some : option_map (λ v. view v.now) c.value.result ≡ Some (view c.in_ok-value.value.now) = ap (option_map (λ v. view v.now)) c.in_ok-value.was in
    record {
      place = record { value = (let e : Some (view c.in_ok-value.value.now) ≡ Some p.value = sym some ∙ there in cc); draft = is.draft; base = is.base };
      path = is.path;
    }
