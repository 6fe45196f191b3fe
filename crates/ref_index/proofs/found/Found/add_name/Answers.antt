use Rattle.std.proofs.Common.{◌≡◌, ℕ, ◌∷◌, [], ◌++◌, sym, refl, subst, rules}
use Rattle.std.specs.List.{AllZip}
use Rattle.ref_draft.specs.Views.{anchor_name}
use Rattle.ref_definitions.specs.Anchors.{Named}
use Rattle.ref_index.specs.inner.Found.{IsNameOf, name_entry}
use Rattle.ref_index.proofs.Holding.{zip_push}
use Rattle.ref_index.proofs.Listing.{on_ok}
use Rattle.ref_index.proofs.found.Found.add_name.Goals as goal

pub returns-clause-added : goal.returns-clause-added
returns-clause-added c = λ layer held p number holds is.
    let old = c.args.self.now in
    let named : c.name.result.now ≡ (anchor_name c.args.anchor).0 = search rules in
    let one : ℕ × Named = (number, name_entry c.args.uri.now p (anchor_name c.args.anchor)) in
    on_ok c.push.result
    (λ more. record {
      by_uri = holds.by_uri;
      by_name = subst (λ l. AllZip (IsNameOf layer old.entries.items) l (held.names ++ one ∷ [])) (sym more)
          (zip_push (IsNameOf layer old.entries.items) old.names held.names _ one holds.by_name (refl, named, c.is_dynamic-is_dynamic.ensures, is));
      wanted = holds.wanted;
      of_identifiers = holds.of_identifiers;
      of_references = holds.of_references;
      known = holds.known;
    })
    c.push.ensures.value
