use Rattle.std.proofs.Common.{[], map, sym, ap, subst, refl, arith}
use Rattle.ref_index.specs.Document.{document_of}
use Rattle.ref_index.specs.inner.Visits.{IsFound}
use Rattle.ref_index.proofs.walked.Walked.new.Goals as goal

pub invariant_of-result : goal.invariant_of-result
invariant_of-result c =
    let nothing : IsFound [] c.new-2.result = record { held = c.new-2.ensures.empty []; faultless = refl; children = λ d there. absurd (omega (arith, there.1)) } in
    subst (λ l. IsFound l c.new-2.result) (sym (ap (map document_of) c.new.ensures.items)) nothing
