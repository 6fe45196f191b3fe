use Rattle.std.proofs.Common.{map, sym, ap, ◌∙◌}
use Rattle.serde_json.specs.View.{view}
use Rattle.ref_draft.specs.Anchors.{anchors}
use Rattle.ref_draft.specs.Views.{anchor_name, anchors_left}
use Rattle.ref_changes.specs.Changes.{are_anchors_kept}
use Rattle.ref_changes.specs.Views.{change_of, site_of_place}
use Rattle.ref_changes.proofs.Anchored.{one_alone, two_alone}
use Rattle.ref_changes.proofs.differing.are_anchors_kept.Goals as goal

pub returns-in_default-2 : goal.returns-in_default-2
returns-in_default-2 c =
    let kept = are_anchors_kept (change_of c.args.change.now) (site_of_place c.args.before.now) (site_of_place c.args.after.now) in
    let now = map anchor_name (anchors_left c.anchors-2.result) in
    one_alone (change_of c.args.change.now) (site_of_place c.args.before.now) (site_of_place c.args.after.now) c.in_default.field-0-0 c.anchors-2.result c.in_default.not-One-1
    ∙ ap (λ xs. kept xs now) (ap (λ i. map anchor_name (anchors_left i)) (sym c.in_default.is-0) ∙ c.anchors.ensures.names)
    ∙ ap (kept (anchors c.args.before.now.draft (view c.args.before.now.value.now))) c.anchors-2.ensures.names

pub returns-in_default-3 : goal.returns-in_default-3
returns-in_default-3 c =
    let kept = are_anchors_kept (change_of c.args.change.now) (site_of_place c.args.before.now) (site_of_place c.args.after.now) in
    let now = map anchor_name (anchors_left c.anchors-2.result) in
    two_alone (change_of c.args.change.now) (site_of_place c.args.before.now) (site_of_place c.args.after.now) c.in_default.field-0-0 c.in_default.field-1-0 c.anchors-2.result c.in_default.not-Two-1
    ∙ ap (λ xs. kept xs now) (ap (λ i. map anchor_name (anchors_left i)) (sym c.in_default.is-0) ∙ c.anchors.ensures.names)
    ∙ ap (kept (anchors c.args.before.now.draft (view c.args.before.now.value.now))) c.anchors-2.ensures.names
