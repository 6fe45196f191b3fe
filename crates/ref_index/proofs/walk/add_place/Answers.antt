use Rattle.std.proofs.Common.{refl, sym, ap, subst, ◌∙◌, option_map}
use Rattle.ref_draft.specs.Views.{tagged_value}
use Rattle.ref_definitions.specs.Resources.{resource_of}
use Rattle.ref_definitions.specs.Anchors.{named_at}
use Rattle.ref_index.specs.Spots.{with_number}
use Rattle.ref_index.specs.inner.Found.{IsNumberOf, with_resources, with_names}
use Rattle.ref_index.specs.Visit.{place_of}
use Rattle.ref_index.specs.inner.Visits.{under_document, names_under}
use Rattle.ref_index.proofs.Spots.{numbered_past}
use Rattle.ref_index.proofs.Listing.{on_ok}
use Rattle.ref_index.proofs.Visiting.{holds_same}
use Rattle.ref_index.proofs.walk.add_place.Goals as goal

pub returns : goal.returns
returns c = λ layer held holds is_at_path named based.
    let p = place_of c.args.place.now in
    let number = c.args.number in
    let under = option_map (λ u. u.now.value) c.args.under in
    let entry : IsNumberOf layer c.add_entry.new.self.entries.items number c.in_ok-entry-2.entry p = (c.in_ok-entry.entry, c.in_ok-entry-2.ensures.entry, c.in_ok-entry.ensures.entry layer is_at_path based, c.in_ok-entry.ensures.document) in
    let kept = c.in_ok-entry-2.ensures.added layer held holds in
    let there = subst (λ es. IsNumberOf layer es number c.in_ok-entry-2.entry p) (sym c.in_ok-add_under.ensures.entries) entry in
    let tag = c.new-resource.ensures.value ∙ ap (tagged_value p.draft) c.get.ensures.value in
    let first = c.in_ok-add_under.ensures.added layer held p number kept entry tag in
    on_ok c.add_by_base.result
    (holds_same layer c.add_by_base.new.found _ _ (numbered_past number held.resources (under_document under p) (resource_of p)) (numbered_past number held.names (names_under under p) (named_at p)) refl refl refl)
    (c.add_by_base.ensures layer (with_names (with_resources held (with_number number (under_document under p))) (with_number number (names_under under p))) p number first there tag named based)
