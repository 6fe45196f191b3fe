use Rattle.std.proofs.Common.{Ok, subst}
use Rattle.referencing.specs.MetaSchemas.{given_of_meta_schemas}
use Rattle.referencing.proofs.Adding.{passed_on}
use Rattle.ref_registries.specs.Worlds.{IsWorld, IsErrorOf}
use Rattle.ref_registries.proofs.Given.{pending_seen}
use Rattle.ref_report.specs.inner.View.{document_view}
use Rattle.ref_report.proofs.worlds.parent_of.Goals as goal

pub returns-in_err-parent-in-Some-clause-fault : goal.returns-in_err-parent-in-Some-clause-fault
returns-in_err-parent-in-Some-clause-fault c =
    let error = c.in_err-parent-in-Some.field-0.0 in
    rw c.in-Some.is
    (passed_on c.from_residual.result error _ c.from_residual.ensures.1
    (subst (λ p. IsErrorOf (IsWorld given_of_meta_schemas p) error) (pending_seen document_view c.in-Some.documents.items) c.in_err-parent-in-Some.ensures.fault))

pub returns-in_ok-parent-in-Some-clause-ok : goal.returns-in_ok-parent-in-Some-clause-ok
returns-in_ok-parent-in-Some-clause-ok c =
    rw c.in-Some.is
    (subst (λ p. IsWorld given_of_meta_schemas p (Ok c.in_ok-parent-in-Some.parent)) (pending_seen document_view c.in-Some.documents.items) c.in_ok-parent-in-Some.ensures.ok)
