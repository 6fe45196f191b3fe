use Rattle.std.proofs.Common.{[], Ok, unwrap_or, ap, rules}
use Rattle.std.proofs.lemmas.Result.{IfOk-weaker, IfErr-weaker}
use Rattle.ref_error.specs.Retrieving.{trees_of}
use Rattle.ref_registries.specs.Worlds.{IsWorld, IsErrorOf}
use Rattle.ref_registries.proofs.Given.{pending_seen}
use Rattle.ref_report.specs.inner.View.{document_view}
use Rattle.ref_report.proofs.Asked.{as_asked}
use Rattle.ref_report.proofs.worlds.world_of.Goals as goal

pub returns-clause-ok : goal.returns-clause-ok
returns-clause-ok c =
    let layers = ap (λ o. unwrap_or o []) c.as_ref.ensures.value in
    IfOk-weaker c.registry_from.result _ _
    (λ world. as_asked (λ given pending. IsWorld given pending (Ok world)) (trees_of c.in_ok-retriever.retriever) _ _ _ _ c.args.draft _ _ _ _
    c.in_ok-retriever.ensures (search rules) c.unwrap_or-draft.ensures layers (pending_seen document_view c.args.documents.items))
    c.registry_from.ensures.ok

pub returns-clause-fault : goal.returns-clause-fault
returns-clause-fault c =
    let layers = ap (λ o. unwrap_or o []) c.as_ref.ensures.value in
    IfErr-weaker c.registry_from.result _ _
    (λ e. as_asked (λ given pending. IsErrorOf (IsWorld given pending) e) (trees_of c.in_ok-retriever.retriever) _ _ _ _ c.args.draft _ _ _ _
    c.in_ok-retriever.ensures (search rules) c.unwrap_or-draft.ensures layers (pending_seen document_view c.args.documents.items))
    c.registry_from.ensures.fault
