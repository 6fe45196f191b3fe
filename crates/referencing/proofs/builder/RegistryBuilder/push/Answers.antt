use Rattle.std.proofs.Common.{rules}
use Rattle.ref_index.specs.Contents.{tree_of}
use Rattle.ref_error.proofs.Saying.{fault_passed}
use Rattle.referencing.specs.Builder.{builder_of, addition}
use Rattle.referencing.proofs.Adding.{added_refused}
use Rattle.referencing.proofs.builder.RegistryBuilder.push.Goals as goal

pub returns-in_err-uri-clause-fault : goal.returns-in_err-uri-clause-fault
returns-in_err-uri-clause-fault g c =
    let pending = (builder_of c.args.self.now).pending in
    let more = addition c.args.uri.now (tree_of c.args.resource.contents) c.args.resource.draft in
    fault_passed c.from_residual.result _ _ c.from_residual.ensures.1
    (added_refused pending more _ _ c.trim_hashes.ensures.value c.in_err-uri.ensures.gives)

pub returns-clause-ok : goal.returns-clause-ok
returns-clause-ok g c = search rules
