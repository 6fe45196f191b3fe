use Rattle.std.proofs.Common.{inl, inr}
use Rattle.std.proofs.lemmas.Bool.{cases_lt}
use Rattle.ref_uri.proofs.NameLemmas.{are_names}
use Rattle.ref_uri.proofs.dots.may_hold_dots.Goals as goal

pub returns : goal.returns
returns c none =
    are_names c.args.bytes.now (λ k lt. elim (cases_lt k c.loop-at.at) [ inl front ↦ c.loop-at.invariant.1 k front | inr behind ↦ c.dot_begins_segment-2.ensures none k behind lt ])
