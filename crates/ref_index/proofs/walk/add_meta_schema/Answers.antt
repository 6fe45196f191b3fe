use Rattle.std.proofs.Common.{◌≡◌, ◌∷◌, [], subst, sym, rules}
use Rattle.serde_json.specs.View.{view}
use Rattle.ref_definitions.specs.Wants as wants
use Rattle.ref_definitions.specs.Wants.{Want, wants_of_text, schema_at}
use Rattle.ref_index.specs.inner.Found.{Holds, with_wants}
use Rattle.ref_index.proofs.walk.add_meta_schema.Goals as goal

pub returns-clause-added : goal.returns-clause-added
returns-clause-added c = λ layer held holds.
    let want : Want = record { cause = wants.MetaSchema; uri = c.in_ok-uri.uri.value } in
    let is : wants_of_text wants.MetaSchema (schema_at (view c.args.value.now)) ≡ want ∷ [] = search rules in
    subst (λ more. Holds layer c.add_want.new.self (with_wants held more)) (sym is) (c.in_ok-add_want.ensures.added layer held holds)
