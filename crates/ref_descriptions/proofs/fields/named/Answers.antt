use Rattle.std.proofs.Common.{◌≡◌, suc, ◌+◌, [], arith, bytes_eq, option_map, ap, sym, rules}
use Rattle.ref_descriptions.specs.declared.fields.Field as rust
use Rattle.ref_descriptions.specs.declared.fields.Holding.TheVariants.{One}
use Rattle.ref_descriptions.specs.declared.kind.Kind.TheVariants.{Root}
use Rattle.ref_descriptions.specs.Views.{field_of}
use Rattle.ref_descriptions.proofs.Finding.{found_at, none_past}
use Rattle.ref_descriptions.proofs.fields.named.Goals as goal

pub returns-then-eq : goal.returns-then-eq
returns-then-eq c =
    sym (ap (option_map (λ f. (f.holding, f.kind))) (found_at field_of (λ f. bytes_eq c.args.name.now f.name) c.args.fields.now c.loop-field.field-index _ c.loop-field-test.true c.loop-field.invariant (search rules)))

pub loop-field-preserved : goal.loop-field-preserved
loop-field-preserved c =
    let next : c.loop-field.field-index + 1 ≡ suc c.loop-field.field-index = omega arith in
    let first : rust.Field = record { name = record { ref_ptr = (0, 0); now = [] }; holding = One; kind = Root } in
    rw next (none_past field_of (λ f. bytes_eq c.args.name.now f.name) c.args.fields.now c.loop-field.field-index first c.loop-field-test.true c.loop-field.invariant (search rules))
