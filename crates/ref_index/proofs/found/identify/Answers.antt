use Rattle.std.proofs.Common.{◌∙◌, ap, cond, true, bytes_eq}
use Rattle.std.specs.HashSet.{contains}
use Rattle.ref_index.specs.inner.Found.{is_same}
use Rattle.ref_index.proofs.found.identify.Goals as goal

pub returns : goal.returns
returns c = λ u.
    c.in_ok-insert.ensures.updates.0 u
    ∙ ap (λ v. cond (bytes_eq v u.value) true (contains is_same c.args.identified.now u)) c.in_ok-clone.ensures.cases
