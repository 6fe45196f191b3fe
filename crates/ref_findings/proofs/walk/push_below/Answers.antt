use Rattle.std.proofs.Common.{◌≡◌, ◌∙◌, List, ◌++◌, map, ap, subst, OnOk, rules}
use Rattle.std.proofs.lemmas.Option.{get_or_from_slice_get}
use Rattle.serde_json.specs.View.{view}
use Rattle.ref_definitions.specs.Places.{child_place}
use Rattle.ref_index.specs.Listed.{ChildrenAreAt}
use Rattle.ref_index.proofs.Listing.{on_ok}
use Rattle.ref_findings.specs.Places.{nearest_base, children_near}
use Rattle.ref_findings.specs.declared.place.Place.{Place}
use Rattle.ref_findings.specs.inner.Seen.{place_of}
use Rattle.ref_draft.specs.Children.{walked_children}
use Rattle.ref_findings.specs.inner.Seen.{read_again}
use Rattle.ref_findings.proofs.Drafts.{read_all}
use Rattle.ref_findings.proofs.walk.push_below.Goals as goal

pub returns-clause-added : goal.returns-clause-added
returns-clause-added c = λ v at.
    let w = c.index-place.result.now in
    let same : w ≡ v = c.index-place.ensures ∙ get_or_from_slice_get c.args.places.now.items c.args.number v w at in
    let p = place_of w in
    let children = map (read_again w.draft) (walked_children w.draft (view w.value.now)) in
    let based : c.in_ok-base.base.value ≡ nearest_base p = search (rules, c.base.ensures.value) in
    let path : c.in_ok-path.path ≡ w.path = search rules in
    subst (λ u. OnOk c.push_children.result ((more : List Place) × (c.push_children.new.places.items ≡ c.args.places.now.items ++ more) × (map place_of more ≡ children_near (place_of u)))) same
    (on_ok c.push_children.result
    (λ pushed. (pushed.0, pushed.1, pushed.2 ∙ ap (λ l. map (child_place l c.in_ok-base.base.value) children) path ∙ ap (λ b. map (child_place w.path b) children) based ∙ ap (map (child_place w.path (nearest_base p))) (read_all w.draft (view w.value.now))))
    c.push_children.ensures.added)

pub returns-clause-are_there : goal.returns-clause-are_there
returns-clause-are_there c = λ v at.
    let w = c.index-place.result.now in
    let same : w ≡ v = c.index-place.ensures ∙ get_or_from_slice_get c.args.places.now.items c.args.number v w at in
    subst (λ u. OnOk c.push_children.result (ChildrenAreAt (place_of u))) same c.push_children.ensures.are_there
