use Rattle.std.proofs.Common.{◌≡◌, ◌∙◌, ◌++◌, bytes_eq, map, sym, ap, subst, option_map, Some, None, rules}
use Rattle.std.specs.List.{find}
use Rattle.ref_descriptions.specs.Fields as tables
use Rattle.ref_descriptions.specs.Views.{field_of}
use Rattle.ref_descriptions.proofs.Finding.{found_front, found_back}
use Rattle.ref_descriptions.proofs.fields.field_named.Goals as goal

pub returns-in-Some : goal.returns-in-Some
returns-in-Some c =
    let k = c.args.kind in
    let t = λ (f : tables.Field). bytes_eq c.args.name.now f.name in
    let is : Some c.in-Some.found ≡ option_map (λ f. (f.holding, f.kind)) (find t (tables.since_3_2 k)) = search rules in
    rw c.in-V3_2.is (found_front (λ f. (f.holding, f.kind)) t (tables.since_3_2 k) (tables.since_3_1 k ++ tables.fields_3_0 k) c.in-Some.found is)
