use Rattle.std.proofs.Output.{has_written_of_eq}
use Rattle.ref_error.proofs.Texts.{unretrievable, invalid_index, limit_reached}
use Rattle.ref_error.proofs.error.ErrorDisplay.fmt.Goals as goal

pub returns-in-Unretrievable-clause-writes : goal.returns-in-Unretrievable-clause-writes
returns-in-Unretrievable-clause-writes g c plain ok =
    rw c.in-Unretrievable.is (has_written_of_eq _ _ _ _ _ (unretrievable _ _) (c.write.ensures.writes plain ok))

pub returns-in-InvalidArrayIndex-clause-writes : goal.returns-in-InvalidArrayIndex-clause-writes
returns-in-InvalidArrayIndex-clause-writes g c plain ok =
    rw c.in-InvalidArrayIndex.is (has_written_of_eq _ _ _ _ _ (invalid_index _ _) (c.write-in-InvalidArrayIndex.ensures.writes plain ok))

pub returns-in-RetrievalLimit-clause-writes : goal.returns-in-RetrievalLimit-clause-writes
returns-in-RetrievalLimit-clause-writes g c plain ok =
    rw c.in-RetrievalLimit.is (has_written_of_eq _ _ _ _ _ (limit_reached _ _) (c.write-in-RetrievalLimit.ensures.writes plain ok))
