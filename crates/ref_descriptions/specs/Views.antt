-- What contracts see of the crate's types.
use Rattle.std.specs.Prelude.{List, [], ◌∷◌, Bool, option_map, if◌then◌else◌, codes}
use Rattle.serde_json.specs.View.{view}
use Rattle.ref_paths.specs.Path.{Part, Key}
use Rattle.ref_draft.specs.Views.{segment_parts}
use Rattle.ref_descriptions.specs.declared.fields.Field as rust
use Rattle.ref_descriptions.specs.declared.inner.Inner as rust_inner
use Rattle.ref_descriptions.specs.declared.referring.Reference as rust_reference
use Rattle.ref_descriptions.specs.declared.referring.Under.{Under}
use Rattle.ref_descriptions.specs.declared.referring.Under.TheVariants.{Itself, Mapping}
use Rattle.ref_descriptions.specs.Fields.{Field}
use Rattle.ref_descriptions.specs.Below.{Inner}
use Rattle.ref_descriptions.specs.References.{Reference, mapping_path}

-- a field of a table
abbrev pub field_of : rust.Field → Field
field_of f = record { name = f.name.now; holding = f.holding; kind = f.kind }

-- what is below an object
abbrev pub inner_of : rust_inner.Inner → Inner
inner_of b =
    record {
      path = Key b.keyword.now ∷ segment_parts b.segment;
      value = view b.value.now;
      reading = b.reading;
    }

-- where the text of a reference is, from its object on
abbrev pub path_under : Under → List Part
path_under Itself = []
path_under Mapping = mapping_path

-- a reference
abbrev pub reference_of : rust_reference.Reference → Reference
reference_of r =
    record {
      within = path_under r.under;
      keyword = r.keyword.now;
      text = option_map (λ t. t.now) r.text;
      wanted = r.wanted;
    }
