use Rattle.std.proofs.Common.{eqb, sym, ap, ◌∙◌, subst}
use Rattle.ref_parts.specs.inner.Words.{number, MarksFirst}
use Rattle.ref_parts.proofs.WordLaws.{marks_of, zeros_first}
use Rattle.ref_parts.proofs.scan.zero_marks.Goals as goal

pub returns : goal.returns
returns c = λ bytes eight small is.
    subst (MarksFirst (λ b. eqb b 0) bytes) (ap (λ n. marks_of n (number bytes)) eight ∙ ap (marks_of 8) (sym is)) (zeros_first bytes small)
