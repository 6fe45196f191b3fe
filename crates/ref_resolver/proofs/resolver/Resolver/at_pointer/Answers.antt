use Rattle.std.proofs.Common.{rules}
use Rattle.serde_json.specs.View.{view}
use Rattle.ref_resolver.proofs.Referring.{pointer_refused}
use Rattle.ref_resolver.proofs.resolver.Resolver.at_pointer.Goals as goal

pub returns-in_err-follow_pointer-clause-gives : goal.returns-in_err-follow_pointer-clause-gives
returns-in_err-follow_pointer-clause-gives c =
    let place = c.args.place in
    let fault = pointer_refused (record { base = c.args.uri.value; scope = c.args.scope }) place.entry.now.draft c.args.pointer.now (view place.value.now) c.args.text.now c.in_err-follow_pointer.field-0.0 c.in_err-follow_pointer.ensures.gives in
    search rules
