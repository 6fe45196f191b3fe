use Rattle.ref_calls.specs.Objects.{IsLineOf}
use Rattle.ref_calls.proofs.answer.line_of.Goals as goal

pub returns : goal.returns
unfolding IsLineOf
returns c = (c.in_ok-text.text.items, c.in_ok-push.ensures.items, record { text = c.in_ok-text.ensures.text; compact = c.in_ok-text.ensures.compact; order = c.in_ok-text.ensures.order; reads_back = c.in_ok-text.ensures.reads_back })
