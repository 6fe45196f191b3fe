use Rattle.std.proofs.Common.{◌∙◌, bytes_eq, map, sym}
use Rattle.ref_descriptions.specs.Views.{field_of}
use Rattle.ref_descriptions.proofs.Finding.{found_front, found_back}
use Rattle.ref_descriptions.proofs.fields.named_in.Goals as goal

pub returns-in-Some : goal.returns-in-Some
returns-in-Some c =
    found_front (λ f. (f.holding, f.kind)) (λ f. bytes_eq c.args.name.now f.name) (map field_of c.args.fields.now) (map field_of c.args.others.now) c.in-Some.found c.in-Some.ensures

pub returns-in-None : goal.returns-in-None
returns-in-None c =
    c.named-in-None.ensures ∙ found_back (λ f. (f.holding, f.kind)) (λ f. bytes_eq c.args.name.now f.name) (map field_of c.args.fields.now) (map field_of c.args.others.now) c.in-None.ensures
