use Rattle.std.proofs.Common.{◌≡◌, ℕ, List, ◌∷◌, [], ◌++◌, sym, refl, subst, rules}
use Rattle.std.specs.List.{AllZip}
use Rattle.ref_definitions.specs.Places.{Place}
use Rattle.ref_index.specs.inner.Found.{IsResourceOf}
use Rattle.ref_index.proofs.Holding.{known_with, zip_push}
use Rattle.ref_index.proofs.Listing.{on_ok}
use Rattle.ref_index.proofs.found.Found.add_resource.Goals as goal

pub returns-clause-added : goal.returns-clause-added
returns-clause-added c = λ layer held p number holds is.
    let old = c.args.self.now in
    let text : c.as_str.result.now ≡ c.args.uri.now.value = search rules in
    let one : ℕ × (List ℕ × Place) = (number, (c.args.uri.now.value, p)) in
    on_ok c.push.result
    (λ more. record {
      by_uri = subst (λ l. AllZip (IsResourceOf layer old.entries.items) l (held.resources ++ one ∷ [])) (sym more)
          (zip_push (IsResourceOf layer old.entries.items) old.resources held.resources _ one holds.by_uri (text, refl, is));
      by_name = holds.by_name;
      wanted = holds.wanted;
      of_identifiers = holds.of_identifiers;
      of_references = holds.of_references;
      known = λ u. known_with u.value c.args.uri.now.value number p held.resources _ _ (holds.known u) (c.in_ok-identify.ensures u);
    })
    c.push.ensures.value
