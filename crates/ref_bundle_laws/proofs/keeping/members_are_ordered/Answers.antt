use Rattle.serde_json.specs.View.{view}
use Rattle.ref_draft.proofs.Order.{ordered_object}
use Rattle.ref_bundle_laws.proofs.keeping.members_are_ordered.Goals as goal

pub returns-in-Some : goal.returns-in-Some
returns-in-Some c = ordered_object (view c.args.value.now) c.in-Some.members.now.entries c.in-Some.ensures c.into_iter-members.ensures.into_iter_gives.5
