use Rattle.std.proofs.Common.{[], rules}
use Rattle.ref_definitions.specs.Lookup.{lookup}
use Rattle.ref_resolver.specs.Resolving.{found_of}
use Rattle.ref_lint.proofs.Saying.{given_answer, given_fault, says_fault, says_memory}
use Rattle.ref_lint.proofs.search.fault_at.Goals as goal

pub returns-in_default-clause-fault : goal.returns-in_default-clause-fault
returns-in_default-clause-fault c =
    let answer = lookup c.args.registry.now (record { base = c.args.base.now; scope = [] }) c.args.reference.now in
    given_answer found_of answer c.lookup.result (search rules) (search rules)

pub returns-clause-fault : goal.returns-clause-fault
returns-clause-fault c =
    let answer = lookup c.args.registry.now (record { base = c.args.base.now; scope = [] }) c.args.reference.now in
    says_fault answer c.in-Some.error (search rules) (given_fault found_of answer c.lookup.result c.in-Some.error (search rules) (search rules))

pub returns-then-is_memory-clause-memory : goal.returns-then-is_memory-clause-memory
returns-then-is_memory-clause-memory c = says_memory c.in-Some.error (search rules)
