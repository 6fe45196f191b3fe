use Rattle.std.proofs.Common.{codes, sym, append_assoc}
use Rattle.std.proofs.Output.{has_written_of_eq}
use Rattle.ref_command_line.specs.Progress.{counted}
use Rattle.ref_command_line.proofs.progress.ProgressDisplay.fmt.Goals as goal

pub returns-in-Judging-clause-writes : goal.returns-in-Judging-clause-writes
returns-in-Judging-clause-writes g c plain ok =
    let files = counted c.in-Judging.files (codes "file") in
    let documents = counted c.in-Judging.documents (codes "document") in
    rw c.in-Judging.is (has_written_of_eq _ _ _ _ _ (sym (append_assoc files (codes " read, judging ") documents)) (c.write-in-Judging.ensures.writes plain ok))
