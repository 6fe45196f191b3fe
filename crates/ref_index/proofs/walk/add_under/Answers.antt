use Rattle.std.proofs.Common.{◌≡◌, ◌∷◌, [], ℕ, List, OnOk, subst, rules}
use Rattle.ref_definitions.specs.Anchors.{named_under}
use Rattle.ref_index.specs.Spots.{with_number}
use Rattle.ref_index.specs.inner.Found.{Holds, with_resources, with_names}
use Rattle.ref_index.proofs.Holding.{number_kept}
use Rattle.ref_index.proofs.walk.add_under.Goals as goal

pub returns-clause-added : goal.returns-clause-added
returns-clause-added c = λ layer held p number holds is tag.
    let uri : List ℕ = c.in-Some.uri.now.value in
    let text : c.as_str.result.now ≡ uri = search rules in
    let first = c.in_ok-add_resource.ensures.added layer held p number holds is in
    let there = number_kept layer _ _ number c.args.entry p c.in_ok-add_resource.ensures.entries is in
    let all = c.add_names.ensures.added layer (with_resources held ((number, (uri, p)) ∷ [])) p number first there tag in
    let done = subst (λ u. OnOk c.add_names.result (Holds layer c.add_names.new.self (with_names (with_resources held ((number, (uri, p)) ∷ [])) (with_number number (named_under u p))))) text all in
    search rules
