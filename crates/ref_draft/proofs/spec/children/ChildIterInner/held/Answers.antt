use Rattle.std.proofs.Common.{◌∙◌, map, ap}
use Rattle.serde_json.specs.View.{view}
use Rattle.ref_draft.specs.Views.{objects_of}
use Rattle.ref_draft.proofs.Held.{values-elements, values-members, values-objects}
use Rattle.ref_draft.proofs.spec.children.ChildIterInner.held.Goals as goal

pub returns-in-Some : goal.returns-in-Some
returns-in-Some c =
    rw (c.in-Elements.is, ← c.in-Some.ensures, values-elements c.args.keyword.now 0 c.in-Some.items.now.items) (ap (map view) (c.iter.ensures.rest ∙ c.deref.ensures.value))

pub returns-in-Some-as_array : goal.returns-in-Some-as_array
returns-in-Some-as_array c =
    rw (c.in-ElementsOrWhole.is, ← c.in-Some-as_array.ensures, values-elements c.args.keyword.now 0 c.in-Some-as_array.items.now.items) (ap (map view) (c.iter-in-Some-as_array.ensures.rest ∙ c.deref-in-Some-as_array.ensures.value))

pub returns-in-Some-as_object : goal.returns-in-Some-as_object
returns-in-Some-as_object c =
    rw (c.in-Members.is, ← c.in-Some-as_object.ensures, values-members c.args.keyword.now c.in-Some-as_object.members.now.entries) (ap (map view) c.values.ensures.rest)

pub returns-in-Some-as_object-2 : goal.returns-in-Some-as_object-2
returns-in-Some-as_object-2 c =
    rw (c.in-ObjectMembers.is, ← c.in-Some-as_object-2.ensures, values-objects c.args.keyword.now c.in-Some-as_object-2.members.now.entries) (ap objects_of c.values-in-Some-as_object-2.ensures.rest)
