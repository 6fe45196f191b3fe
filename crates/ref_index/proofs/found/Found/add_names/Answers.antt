use Rattle.std.proofs.Common.{◌∷◌, [], refl, subst, sym, ap, ◌∙◌}
use Rattle.serde_json.specs.View.{view}
use Rattle.ref_draft.specs.Anchors.{anchors}
use Rattle.ref_draft.specs.Views.{anchor_name, resource_ref}
use Rattle.ref_index.specs.inner.Found.{IsNumberOf, name_entry, with_names}
use Rattle.ref_index.proofs.Holding.{two_names}
use Rattle.ref_index.proofs.Listing.{on_ok}
use Rattle.ref_index.proofs.Visiting.{holds_same}
use Rattle.ref_index.proofs.found.Found.add_names.Goals as goal

pub returns-in_ok-add_name-in-Two-clause-added : goal.returns-in_ok-add_name-in-Two-clause-added
returns-in_ok-add_name-in-Two-clause-added c = λ layer held p number holds is tag.
    let first = anchor_name c.in-Two.plain in
    let second = anchor_name c.in-Two.dynamic in
    let one = name_entry c.args.uri.now p first in
    on_ok c.add_name-in-Two-2.result
    (holds_same layer c.add_name-in-Two-2.new.self _ _ refl
    (two_names number c.args.uri.now p held.names (resource_ref c.args.resource) first second (c.in-Two.ensures.names ∙ ap (λ d. anchors d (view c.contents.result.now)) c.draft.ensures.value ∙ ap (anchors c.args.resource.draft) c.contents.ensures.value) tag) refl refl refl)
    (c.add_name-in-Two-2.ensures.added layer (with_names held ((number, one) ∷ [])) p number (c.in_ok-add_name-in-Two.ensures.added layer held p number holds is) (subst (λ es. IsNumberOf layer es number c.args.entry p) (sym c.in_ok-add_name-in-Two.ensures.entries) is))
