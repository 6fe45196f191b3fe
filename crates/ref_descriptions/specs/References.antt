-- The references that an object has, and what each is to lead to.
use Rattle.std.specs.Prelude.{ℕ, Bool, true, false, not, ◌&&◌, ◌||◌, List, [], ◌∷◌, ◌++◌, map, codes, is_some, if◌then◌else◌, Option, Some, None, option_and_then}
use Rattle.std.specs.Option.{option_map_or}
use Rattle.serde_json.specs.Data.{Data, Members, no_members, member}
use Rattle.serde_json.specs.Find.{get, as_str, as_object}
use Rattle.ref_paths.specs.Path.{Part, Key}
use Rattle.ref_draft.specs.declared.draft.Draft.{Draft}
use Rattle.ref_draft.specs.declared.draft.Draft.TheVariants.{Draft202012, Unknown}
use Rattle.ref_draft.specs.Schema.{text_under}
use Rattle.ref_descriptions.specs.declared.version.Version.{Version}
use Rattle.ref_descriptions.specs.declared.version.Version.TheVariants.{V2_0}
use Rattle.ref_descriptions.specs.declared.kind.Kind.{Kind}
use Rattle.ref_descriptions.specs.declared.kind.Kind.TheVariants.{PathItem, Operation, Link, Schema}
use Rattle.ref_descriptions.specs.declared.reading.Reading.{Reading}
use Rattle.ref_descriptions.specs.Readings.{is_schema, may_be_reference, is_reference, is_schema_of_a_draft}

-- A reference: where its text is, from its object on, and under which key there; the text, or none where the value there is no
-- text; and the kind of what it is to lead to
pub record Reference : Type 0 where
  pub within : List Part
  pub keyword : List ℕ
  pub text : Option (List ℕ)
  pub wanted : Kind

-- what is under a key of the object itself
abbrev pub own_reference : List ℕ → Kind → Data → Reference
own_reference keyword wanted value =
    record { within = []; keyword = keyword; text = as_str value; wanted = wanted }

-- whatever the value there is
abbrev pub under_key : List ℕ → Kind → Data → List Reference
under_key keyword wanted value =
    option_map_or (λ v. own_reference keyword wanted v ∷ []) (get keyword value) []

-- where it is a text
abbrev pub text_under_key : List ℕ → Kind → Data → List Reference
text_under_key keyword wanted value =
    if is_some (text_under keyword value) then under_key keyword wanted value else []

-- whether what is read so may have a `$ref`: a Reference Object may stand there, or it is a path item or a schema of a draft
-- ("Path Item Object", `$ref`; 2020-12 Core, 8.2.3.1)
abbrev pub is_path_item : Kind → Bool
is_path_item PathItem = true
is_path_item other = false

abbrev pub may_refer : Reading → Bool
may_refer r = may_be_reference r || is_path_item r.kind || is_schema_of_a_draft r

-- its `$ref` is to lead to an object of its own kind
abbrev pub plain_references : Reading → Data → List Reference
plain_references r value = if may_refer r then under_key (codes "$ref") r.kind value else []

-- whether a draft has `$dynamicRef` (2020-12 Core, 8.2.3.2)
abbrev pub has_dynamic : Draft → Bool
has_dynamic Draft202012 = true
has_dynamic Unknown = true
has_dynamic other = false

-- the `$dynamicRef` of a schema of a draft that has it
abbrev pub dynamic_references : Reading → Data → List Reference
dynamic_references r value =
    if is_schema_of_a_draft r && has_dynamic r.draft
    then under_key (codes "$dynamicRef") Schema value
    else []

-- the `operationRef` of a link ("Link Object")
abbrev pub operation_references : Kind → Data → List Reference
operation_references Link value = text_under_key (codes "operationRef") Operation value
operation_references other value = []

-- where the mapping of a discriminator is ("Discriminator Object")
abbrev pub mapping_path : List Part
mapping_path = Key (codes "discriminator") ∷ Key (codes "mapping") ∷ []

-- the text of a member of the mapping
abbrev pub mapped_reference : List ℕ → List ℕ → Reference
mapped_reference key text =
    record { within = mapping_path; keyword = key; text = Some text; wanted = Schema }

-- those of its members that are texts
abbrev pub mapped_references : Members → List Reference
mapped_references no_members = []
mapped_references (member key value ms) =
    option_map_or (λ text. mapped_reference key text ∷ []) (as_str value) []
    ++ mapped_references ms

-- the mapping of a value that has a discriminator
abbrev pub mapping_of : Data → Option Members
mapping_of value =
    option_and_then as_object
    (option_and_then (get (codes "mapping")) (get (codes "discriminator") value))

-- whether a version has discriminators with a mapping: 2.0 has none
abbrev pub has_mapping : Option Version → Bool
has_mapping None = false
has_mapping (Some V2_0) = false
has_mapping (Some other) = true

-- whether what is read so may have one
abbrev pub may_map : Reading → Bool
may_map r = is_schema r.kind && has_mapping r.version

-- the texts of the mapping of a schema's discriminator
abbrev pub discriminator_references : Reading → Data → List Reference
discriminator_references r value =
    if may_map r then option_map_or mapped_references (mapping_of value) [] else []

-- The references of a value that is read so, in this order. A Reference Object has its `$ref` alone
abbrev pub references : Reading → Data → List Reference
references r value =
    plain_references r value
    ++ (if is_reference r value then []
    else (dynamic_references r value
    ++ (operation_references r.kind value ++ discriminator_references r value)))
