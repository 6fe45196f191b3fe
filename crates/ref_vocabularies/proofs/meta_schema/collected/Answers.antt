use Rattle.std.proofs.Common.{[], string_bytes}
use Rattle.serde_json.specs.View.{view, members_view}
use Rattle.ref_definitions.specs.Fault.{as_invalid_uri}
use Rattle.ref_vocabularies.specs.Vocabularies.{of_known, collected_set}
use Rattle.ref_error.proofs.Saying.{gives_error}
use Rattle.ref_vocabularies.proofs.Faults.{key_refused}
use Rattle.ref_vocabularies.proofs.meta_schema.collected.Goals as goal

pub returns-in_err-add_member : goal.returns-in_err-add_member
returns-in_err-add_member c =
    let whole = collected_set (of_known []) (members_view c.args.members.now.entries) in
    let error = c.in_err-add_member.field-0.0 in
    let left = rw c.in-Some.ensures.steps at c.loop-key.invariant in
    let refused = rw c.as_str.ensures.value at c.in_err-add_member.ensures.fault in
    record {
      gives = gives_error (λ set. set) (as_invalid_uri whole) c.from_residual.result error c.from_residual.ensures.1
          (key_refused whole c.loop-key.set (string_bytes c.in-Some.key.now) (view c.in-Some.value.now) (members_view c.next.new.self) error left refused);
    }
