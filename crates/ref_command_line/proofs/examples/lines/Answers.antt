use Rattle.std.proofs.Common.{refl}
use Rattle.std.specs.Fmt.{digits}
use Rattle.ref_command_line.proofs.examples.lines.Goals as goal

pub returns-clause-reading : goal.returns-clause-reading
unfolding digits
returns-clause-reading c = refl

pub returns-clause-one_file : goal.returns-clause-one_file
unfolding digits
returns-clause-one_file c = refl

pub returns-clause-judging : goal.returns-clause-judging
unfolding digits
returns-clause-judging c = refl

pub returns-clause-one_document : goal.returns-clause-one_document
unfolding digits
returns-clause-one_document c = refl
