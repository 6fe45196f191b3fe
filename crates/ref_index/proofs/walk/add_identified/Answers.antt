use Rattle.std.proofs.Common.{◌≡◌, ◌∷◌, [], ℕ, List, sym, subst, rules}
use Rattle.ref_definitions.specs.Resources.{resource_of}
use Rattle.ref_index.specs.Spots.{with_number}
use Rattle.ref_index.specs.inner.Found.{Holds, with_resources}
use Rattle.ref_index.proofs.walk.add_identified.Goals as goal

pub returns-in_ok-add_resource-clause-added : goal.returns-in_ok-add_resource-clause-added
returns-in_ok-add_resource-clause-added c = λ layer held p number holds is named based.
    let uri : List ℕ = c.args.base.now.value in
    let identified : resource_of p ≡ (uri, p) ∷ [] = search rules in
    subst (λ l. Holds layer c.add_resource.new.self (with_resources held (with_number number l))) (sym identified) (c.in_ok-add_resource.ensures.added layer held p number holds is)
