use Rattle.std.proofs.Common.{◌≢◌, All, sym, subst, ◌∙◌, rules}
use Rattle.ref_resolver.proofs.Cutting.{first_slash, uncut}
use Rattle.ref_resolver.proofs.pointed.cut_at_slash.Goals as goal

pub returns-in_err-slash_in : goal.returns-in_err-slash_in
returns-in_err-slash_in c =
    let none = uncut 47 c.args.text.now (sym c.slash_in.ensures ∙ c.in_err-slash_in.was) in
    search rules

pub cut_at-requires-clause-slash : goal.cut_at-requires-clause-slash
cut_at-requires-clause-slash c = (first_slash c.args.text.now c.in_ok-slash_in.field-0 (sym c.slash_in.ensures ∙ c.in_ok-slash_in.was)).1

pub returns : goal.returns
returns c =
    let first = first_slash c.args.text.now c.in_ok-slash_in.field-0 (sym c.slash_in.ensures ∙ c.in_ok-slash_in.was) in
    (c.cut_at.ensures.cut, subst (All (λ b. b ≢ 47)) (sym c.cut_at.ensures.token) first.2)
