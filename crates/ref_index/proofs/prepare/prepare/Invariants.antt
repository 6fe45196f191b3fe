use Rattle.std.proofs.Common.{◌-◌, map}
use Rattle.ref_index.specs.Document.{document_of}
use Rattle.ref_index.specs.Retrieval.{given_with}
use Rattle.ref_index.proofs.Retrieving.{IsAfter}
use Rattle.ref_index.proofs.prepare.prepare.Given as goal

abbrev pub invariant-loop-want : goal.invariant-loop-want
invariant-loop-want g l =
    IsAfter (given_with (g.R.Retrieve.meaning l.retriever) l.limit l.draft (map (λ p. p.now) l.parents) (map document_of l.fn.documents.items)) l.count l.walked l.next

abbrev pub decreases-loop-want : goal.decreases-loop-want
decreases-loop-want g l = l.limit - l.count
