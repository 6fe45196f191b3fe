use Rattle.std.proofs.Common.{◌∙◌, sym, ap, map}
use Rattle.serde_json.specs.View.{view}
use Rattle.ref_draft.specs.Keywords.{holding_of}
use Rattle.ref_draft.specs.Children.{held_children}
use Rattle.ref_draft.proofs.Held.{value_of}
use Rattle.ref_draft.proofs.Given.{given_none, given_all}
use Rattle.ref_draft.proofs.spec.children.ChildIterInner.under.Goals as goal

pub returns-then-is_left_out : goal.returns-then-is_left_out
returns-then-is_left_out c =
    sym (given_none c.args.draft (holding_of c.args.draft c.args.keyword.now) c.args.keyword.now (view c.args.value.now) (sym c.is_left_out.ensures ∙ c.if-is_left_out.true))

pub returns-else-is_left_out : goal.returns-else-is_left_out
returns-else-is_left_out c =
    c.held.ensures ∙ ap (λ how. map value_of (held_children how c.args.keyword.now (view c.args.value.now))) c.holding.ensures
    ∙ sym (given_all c.args.draft (holding_of c.args.draft c.args.keyword.now) c.args.keyword.now (view c.args.value.now) (sym c.is_left_out.ensures ∙ c.if-is_left_out.false))
