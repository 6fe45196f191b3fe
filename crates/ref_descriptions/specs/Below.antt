-- What is right below an object: the objects under its fields, or of a schema of a draft its subschemas.
use Rattle.std.specs.Prelude.{ℕ, List, [], ◌∷◌, ◌++◌, map, filter, Bool, Option, if◌then◌else◌}
use Rattle.std.specs.Option.{option_map_or}
use Rattle.serde_json.specs.Data.{Data, Members, no_members, member}
use Rattle.serde_json.specs.Find.{as_array, as_object}
use Rattle.ref_paths.specs.Path.{Part}
use Rattle.ref_draft.specs.Children.{Child, Walked, whole_child, elements_from, elements, members, is_object, has_object, walked_children}
use Rattle.ref_descriptions.specs.declared.version.Version.{Version}
use Rattle.ref_descriptions.specs.declared.kind.Kind.{Kind}
use Rattle.ref_descriptions.specs.declared.fields.Holding.{Holding}
use Rattle.ref_descriptions.specs.declared.fields.Holding.TheVariants.{One, Each, Members as EachMember, OneOrEach}
use Rattle.ref_descriptions.specs.declared.reading.Reading.{Reading}
use Rattle.ref_descriptions.specs.Fields.{field_under}
use Rattle.ref_descriptions.specs.Readings.{is_schema_of_a_draft, reading_below, is_reference}

-- an object below another: its path from there, its value, and how it is read
pub record Inner : Type 0 where
  pub path : List Part
  pub value : Data
  pub reading : Reading

-- the values that a field holds, each with its path
abbrev pub held : Holding → List ℕ → Data → List Child
held One name value = whole_child name value
held Each name value = elements name value
held EachMember name value = members name value
held OneOrEach name value =
    option_map_or (elements_from name 0) (as_array value) (whole_child name value)

-- a value of a kind below what is read so
abbrev pub inner_value : Reading → Kind → Child → Inner
inner_value r kind child =
    record { path = child.0; value = child.1; reading = reading_below r kind child.1 }

-- the objects that a field holds: a value that is no object isn't one
abbrev pub inner_values : Reading → List ℕ → Data → Holding × Kind → List Inner
inner_values r name value field =
    map (inner_value r field.1) (filter has_object (held field.0 name value))

-- those under each member's name, in the order of the members
abbrev pub below_members : Reading → Version → Members → List Inner
below_members r version no_members = []
below_members r version (member name value ms) =
    option_map_or (inner_values r name value) (field_under version r.kind name) []
    ++ below_members r version ms

-- a subschema, by the draft that is detected on it
abbrev pub inner_schema : Reading → Walked → Inner
inner_schema r child =
    record { path = child.path; value = child.value; reading = record r { draft = child.draft } }

-- whether a subschema is an object
abbrev pub is_object_below : Walked → Bool
is_object_below child = is_object child.value

-- the subschemas of a schema of a draft that are objects
abbrev pub below_schema : Reading → Data → List Inner
below_schema r value =
    map (inner_schema r) (filter is_object_below (walked_children r.draft value))

-- those under the fields of an object
abbrev pub below_fields : Reading → Data → Version → List Inner
below_fields r value version = option_map_or (below_members r version) (as_object value) []

-- What is right below a value that is read so. Nothing is below a Reference Object
abbrev pub below : Reading → Data → List Inner
below r value =
    if is_schema_of_a_draft r then below_schema r value
    else (if is_reference r value then []
    else option_map_or (below_fields r value) r.version [])
