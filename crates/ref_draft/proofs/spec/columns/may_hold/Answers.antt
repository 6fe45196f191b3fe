use Rattle.std.proofs.Common.{◌≡◌, ◌-◌, length, Some, slice_get, sym, ◌∙◌, rules}
use Rattle.ref_draft.proofs.Begun.{other_ends}
use Rattle.ref_draft.proofs.spec.columns.may_hold.Goals as goal

pub returns : goal.returns
returns c = λ d no.
    let k = c.args.keyword.now in
    let first : slice_get k 0 ≡ Some c.in-Some.first.now = search rules in
    let last : slice_get k (length k - 1) ≡ Some c.in-Some-last.last.now = search rules in
    other_ends d k c.in-Some.first.now c.in-Some-last.last.now first last (sym c.are_ends.ensures ∙ no)
