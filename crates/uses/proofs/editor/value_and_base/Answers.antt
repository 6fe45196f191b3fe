use Rattle.std.proofs.Common.{rules}
use Rattle.referencing.specs.Resolving.{found_of}
use Rattle.uses.proofs.editor.value_and_base.Goals as goal

pub returns-clause-ok : goal.returns-clause-ok
returns-clause-ok c = (found_of c.in_ok-lookup.field-0, search rules, search rules, search rules)
