-- What contracts see of the crate's types.
use Rattle.std.specs.Prelude.{◌≡◌, All, ℕ, List, [], ◌∷◌, ◌++◌, map, filter, Option, Some, None}
use Rattle.std.specs.Option.{option_map_or}
use Rattle.std.specs.Slice.Iter.{iter_rest}
use Rattle.serde_json.specs.Data.{Data, object}
use Rattle.serde_json.specs.View.{view, members_view}
use Rattle.serde_json.specs.declared.value.Value.{Value}
use Rattle.ref_paths.specs.Path as path
use Rattle.ref_paths.specs.Path.{Part}
use Rattle.ref_paths.specs.Segment.{part_of}
use Rattle.ref_paths.specs.declared.path.JsonPointerSegment.{JsonPointerSegment}
use Rattle.ref_draft.specs.declared.draft.Draft.{Draft}
use Rattle.ref_draft.specs.declared.resource.Resource.{Resource}
use Rattle.ref_draft.specs.declared.resource.ResourceRef.{ResourceRef}
use Rattle.ref_draft.specs.declared.anchor.Anchor.{Anchor}
use Rattle.ref_draft.specs.declared.anchor.Anchor.TheVariants as anchor
use Rattle.ref_draft.specs.declared.anchor.AnchorIter.{AnchorIter}
use Rattle.ref_draft.specs.declared.anchor.AnchorIter.TheVariants as names
use Rattle.ref_draft.specs.declared.spec.children.ChildIter.{ChildIter}
use Rattle.ref_draft.specs.declared.spec.children.ChildIterInner.{ChildIterInner}
use Rattle.ref_draft.specs.declared.spec.children.ChildIterInner.TheVariants as inner
use Rattle.ref_draft.specs.declared.spec.walk.Child.{Child}
use Rattle.ref_draft.specs.Anchors.{Kind, Plain, Dynamic}
use Rattle.ref_draft.specs.Schema.{identifier}
use Rattle.ref_draft.specs.Children.{Walked, is_object, subresources}

-- a tree, and the draft that it is read by
pub record Tagged : Type 0 where
  pub contents : Data
  pub draft : Draft

-- a value and its draft
abbrev pub tagged_value : Draft → Data → Tagged
tagged_value d t = record { contents = t; draft = d }

-- what a resource shows
abbrev pub resource : Resource → Tagged
resource r = tagged_value r.draft (view r.contents)

-- what a borrowed resource shows
abbrev pub resource_ref : ResourceRef → Tagged
resource_ref r = tagged_value r.draft (view r.contents.now)

-- its identifier
abbrev pub id_of : Tagged → Option (List ℕ)
id_of t = identifier t.draft t.contents

-- an anchor's name and kind, and what it names
abbrev pub anchor_name : Anchor → List ℕ × Kind
anchor_name (anchor.Default name resource) = (name.now, Plain)
anchor_name (anchor.Dynamic name resource) = (name.now, Dynamic)

-- the resource of an anchor
abbrev pub anchor_resource : Anchor → Tagged
anchor_resource (anchor.Default name resource) = resource_ref resource
anchor_resource (anchor.Dynamic name resource) = resource_ref resource

-- each anchor names this
abbrev pub AllName : Tagged → List Anchor → Type 0
AllName t anchors = All (λ a. anchor_resource a ≡ t) anchors

-- the anchors that an iterator has left
abbrev pub anchors_left : AnchorIter → List Anchor
anchors_left names.Empty = []
anchors_left (names.One a) = a ∷ []
anchors_left (names.Two a b) = a ∷ b ∷ []

-- the part of a child's segment, where it has one
abbrev pub segment_parts : Option JsonPointerSegment → List Part
segment_parts None = []
segment_parts (Some s) = part_of s ∷ []

-- a child of the walk: its path, value and draft
abbrev pub walked_child : Child → Walked
walked_child child =
    record {
      path = path.Key child.keyword.now
          ∷ segment_parts child.segment;
      value = view child.value.now;
      draft = child.draft;
    }

-- of some values, those that are objects
abbrev pub objects_of : List Value → List Data
objects_of values = filter is_object (map view values)

-- the values that an iterator under one keyword has left
abbrev pub inner_left : ChildIterInner → List Data
inner_left (inner.Once value) = view value.now ∷ []
inner_left (inner.Array it) = map view (iter_rest it)
inner_left (inner.Object it) = map view it
inner_left (inner.FilteredObject it) = objects_of it
inner_left inner.Empty = []

-- the values that an iterator has left: those under the keyword that it is at, then those under the keywords after it
abbrev pub values_left : ChildIter → List Data
values_left it =
    inner_left it.current
    ++ option_map_or
    (λ members. subresources it.draft (object (members_view members))) it.members []
