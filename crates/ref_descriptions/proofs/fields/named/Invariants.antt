use Rattle.std.proofs.Common.{◌≡◌, None, map, take, bytes_eq}
use Rattle.std.specs.List.{find}
use Rattle.ref_descriptions.specs.Views.{field_of}
use Rattle.ref_descriptions.proofs.fields.named.Given as goal

abbrev pub invariant-loop-field : goal.invariant-loop-field
invariant-loop-field l = find (λ f. bytes_eq l.name f.name) (map field_of (take l.field-index l.fields)) ≡ None
