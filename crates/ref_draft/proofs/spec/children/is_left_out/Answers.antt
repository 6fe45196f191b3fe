use Rattle.std.proofs.Common.{sym, ap, ◌∙◌}
use Rattle.ref_draft.specs.Keywords.{is_left_out}
use Rattle.ref_draft.proofs.spec.children.is_left_out.Goals as goal

pub returns-in-Draft201909 : goal.returns-in-Draft201909
returns-in-Draft201909 c = c.eq.ensures ∙ sym (ap (λ d. is_left_out d c.args.keyword.now) c.in-Draft201909.is)
