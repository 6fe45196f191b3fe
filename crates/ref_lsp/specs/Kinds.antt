-- Which kind of object a reference of a description is to lead to, and which components are of it.
use Rattle.std.specs.Prelude.{ℕ, ◌-◌, ◌&&◌, ◌||◌, Bool, true, List, [], ◌∷◌, take, length, codes, Option, Some, None, option_and_then, string_bytes, if◌then◌else◌}
use Rattle.ref_positions.specs.declared.part.Step.{Step}
use Rattle.ref_positions.specs.declared.part.Step.TheVariants.{Member, Item}
use Rattle.ref_descriptions.specs.declared.version.Version.{Version}
use Rattle.ref_descriptions.specs.declared.kind.Kind.{Kind}
use Rattle.ref_descriptions.specs.declared.kind.Kind.TheVariants.{PathItem, Operation, Response, Parameter, Header, RequestBody, MediaType, Example, Link, Callback, SecurityScheme, Schema}
use Rattle.ref_descriptions.specs.declared.fields.Holding.{Holding}
use Rattle.ref_descriptions.specs.declared.fields.Holding.TheVariants.{One, Each, Members, OneOrEach}
use Rattle.ref_descriptions.specs.Fields.{field_under}
use Rattle.ref_descriptions.specs.Readings.{is_schema}
use Rattle.ref_workspace.specs.Referring.{is_one_of}
use Rattle.ref_lsp.specs.Keys.{definitions, is_key, is_of_kind, key_before, group_of}

-- what is a step below an object of a kind, by the tables of a version
abbrev pub field_of : Version → Kind → Step → Option (Holding × Kind)
field_of version kind (Member key) = field_under version kind (string_bytes key)
field_of version kind (Item index) = None

-- the same, where what is in a schema is of schemas
abbrev pub below : Version → Kind → Step → Option (Holding × Kind)
below version kind step = if is_schema kind then Some (One, Schema) else field_of version kind step

-- what is a step below what holds objects of a kind
abbrev pub after : Version → Holding × Kind → Step → Option (Holding × Kind)
after version (One, kind) step = below version kind step
after version (Each, kind) (Item index) = Some (One, kind)
after version (Each, kind) (Member key) = None
after version (Members, kind) (Member key) = Some (One, kind)
after version (Members, kind) (Item index) = None
after version (OneOrEach, kind) (Item index) = Some (One, kind)
after version (OneOrEach, kind) (Member key) = below version kind (Member key)

-- what is at the end of steps from there; nothing where the tables know nothing of it
abbrev pub along : Version → Holding × Kind → List Step → Option (Holding × Kind)
along version here [] = Some here
along version here (step ∷ steps) =
    option_and_then (λ next. along version next steps) (after version here step)

-- the kind of the object that is there, where it is one
abbrev pub kind_there : Holding × Kind → Option Kind
kind_there (One, kind) = Some kind
kind_there (OneOrEach, kind) = Some kind
kind_there (Each, kind) = None
kind_there (Members, kind) = None

-- the kind of what a reference is to lead to whose steps come from an object of a kind: that of the object that has it, or an operation
abbrev pub wanted : Version → Kind → List Step → Option Kind
wanted version kind path =
    if is_key (codes "operationRef") (key_before 0 path) then Some Operation
    else option_and_then kind_there (along version (One, kind) (take (length path - 1) path))

-- the member whose members are objects of a kind: components (OpenAPI 3.2, "Components Object"; 2.0, "Swagger Object")
abbrev pub group_for : Kind → Option (List ℕ)
group_for Schema = Some (codes "schemas")
group_for Response = Some (codes "responses")
group_for Parameter = Some (codes "parameters")
group_for Header = Some (codes "headers")
group_for RequestBody = Some (codes "requestBodies")
group_for MediaType = Some (codes "mediaTypes")
group_for Example = Some (codes "examples")
group_for Link = Some (codes "links")
group_for Callback = Some (codes "callbacks")
group_for SecurityScheme = Some (codes "securitySchemes")
group_for PathItem = Some (codes "pathItems")
group_for other = None

-- the objects in a member with a name are of a kind: definitions are schemas (JSON Schema 2020-12, 8.2.4; 2.0, "Swagger Object")
abbrev pub is_in_group : Kind → List ℕ → Bool
is_in_group kind group =
    is_key group (group_for kind) || (is_schema kind && is_one_of definitions group)

-- anchors are offered, which are those of schemas: where a schema is wanted, or no kind is known
abbrev pub has_anchors : Option Kind → Bool
has_anchors (Some kind) = is_schema kind
has_anchors None = true

-- a component is offered: it is of the kind that is wanted, or where none is known, of that which the keys on the way to the reference say
abbrev pub is_offered : Option Kind → List Step → List ℕ → Bool
is_offered (Some kind) path component = is_in_group kind (group_of component)
is_offered None path component = is_of_kind path component
