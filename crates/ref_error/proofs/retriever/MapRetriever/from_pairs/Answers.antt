use Rattle.ref_error.proofs.retriever.MapRetriever.from_pairs.Goals as goal

pub invariant_of-result : goal.invariant_of-result
invariant_of-result c = rw c.of-given.ensures c.in_ok-documents.ensures
