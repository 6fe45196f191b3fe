use Rattle.std.proofs.Common.{◌≡◌, ◌∙◌, ◌∷◌, [], Some, Ok, ap, subst, rules}
use Rattle.std.specs.Prelude.{◌==◌, None, slice_index, if◌then◌else◌}
use Rattle.ref_uri.specs.Bytes.{hash}
use Rattle.ref_uri.specs.Targets.{uri_against, uri_part}
use Rattle.ref_index.specs.inner.Found.{Holds, with_references}
use Rattle.ref_index.proofs.Referring.{pair_of_part}
use Rattle.ref_index.proofs.walk.referred.Goals as goal

pub returns-clause-added : goal.returns-clause-added
returns-clause-added c = λ layer held holds.
    let base = c.as_str.result.now in
    let text = c.in-Some.text.now in
    let reference = c.args.reference.now in
    let part : Some text ≡ (if slice_index reference 0 == hash then None else Some (uri_part reference)) = search rules in
    let means : uri_against base text ≡ Ok c.in_ok-uri.uri.value = search rules in
    let same : base ≡ c.args.base.now.value = search rules in
    subst (λ l. Holds layer c.add_reference.new.self (with_references held l)) (ap (λ b. (b, text) ∷ []) same ∙ pair_of_part c.args.base.now.value reference text part) (c.in_ok-add_reference.ensures.added layer held holds means)
