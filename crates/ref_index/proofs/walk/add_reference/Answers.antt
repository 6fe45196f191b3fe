use Rattle.std.proofs.Common.{◌≡◌, ◌∷◌, [], subst, sym, rules}
use Rattle.serde_json.specs.View.{view}
use Rattle.ref_definitions.specs.Cached.{pairs_of_reference, pairs_of_value}
use Rattle.ref_definitions.specs.Wants as wants
use Rattle.ref_definitions.specs.Wants.{Want, wants_of_text, reference_at}
use Rattle.ref_index.specs.inner.Found.{Holds, with_wants, with_references}
use Rattle.ref_index.proofs.walk.add_reference.Goals as goal

pub returns-clause-added : goal.returns-clause-added
returns-clause-added c = λ layer held holds.
    let want : Want = record { cause = wants.Reference; uri = c.in_ok-uri.uri.value } in
    let is : wants_of_text wants.Reference (reference_at c.args.base.now.value (view c.args.value.now)) ≡ want ∷ [] = search rules in
    let base = c.args.base.now.value in
    let kept : pairs_of_reference base c.in-Some.reference.now ≡ pairs_of_value base (view c.args.value.now) = search rules in
    let referred = subst (λ l. Holds layer c.referred.new.found (with_references held l)) kept (c.in_ok-uri.ensures.added layer held holds) in
    subst (λ more. Holds layer c.add_want.new.self (with_wants (with_references held (pairs_of_value base (view c.args.value.now))) more)) (sym is)
    (c.in_ok-add_want.ensures.added layer (with_references held (pairs_of_value base (view c.args.value.now))) referred)
