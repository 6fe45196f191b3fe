-- What is added to lists.
use Rattle.std.specs.Prelude.{◌≡◌, List, ◌++◌, map, filter}
use Rattle.ref_draft.specs.Children.{Child, has_object}
use Rattle.ref_descriptions.specs.declared.kind.Kind.{Kind}
use Rattle.ref_descriptions.specs.declared.reading.Reading.{Reading}
use Rattle.ref_descriptions.specs.declared.inner.Inner as rust_inner
use Rattle.ref_descriptions.specs.declared.referring.Reference as rust
use Rattle.ref_descriptions.specs.Below.{Inner, inner_value}
use Rattle.ref_descriptions.specs.References.{Reference}
use Rattle.ref_descriptions.specs.Views.{inner_of, reference_of}

-- these were added at the end
abbrev pub AddsInner : List Inner → List rust_inner.Inner → List rust_inner.Inner → Type 0
AddsInner more old new = map inner_of new ≡ map inner_of old ++ more

-- those of these values that are objects were added, as objects of a kind
abbrev pub Adds : Reading → Kind → List Child → List rust_inner.Inner → List rust_inner.Inner → Type 0
Adds r kind cs old new = AddsInner (map (inner_value r kind) (filter has_object cs)) old new

-- these references were added at the end
abbrev pub AddsReferences : List Reference → List rust.Reference → List rust.Reference → Type 0
AddsReferences more old new = map reference_of new ≡ map reference_of old ++ more
