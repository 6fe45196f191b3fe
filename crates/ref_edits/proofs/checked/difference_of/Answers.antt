use Rattle.std.proofs.Common.{◌≡◌, ◌<◌, ◌≤◌, ◌∷◌, ◌++◌, [], All, true, false, ap, subst, sym, ◌∙◌, length, take, get_or, slice_index_or, arith, rules}
use Rattle.std.proofs.lemmas.List.{take_all, take_more}
use Rattle.std.proofs.lemmas.List.Elements.{All-append}
use Rattle.ref_edits.specs.Checked.{IsEditRead}
use Rattle.ref_edits.proofs.Changing.{all_one}
use Rattle.ref_edits.proofs.checked.difference_of.Goals as goal

pub loop-edit-preserved : goal.loop-edit-preserved
loop-edit-preserved c =
    let is_read = IsEditRead c.args.given.now.texts.now c.args.plan.now.changes.items in
    let edits = c.args.edits.now in
    let i = c.loop-edit.edit-index in
    let edit = c.edit-item.result in
    let within : i < length edits = omega arith in
    let planned : c.in_ok-is_as_planned.field-0 ≡ true = search rules in
    let last = c.in_ok-is_as_planned.ensures planned in
    subst (All is_read) (sym (take_more edits i edit within ∙ ap (λ e. take i edits ++ e ∷ []) (sym c.edit-item.is)))
    (All-append is_read (take i edits) (edit ∷ []) c.loop-edit.invariant (all_one is_read edit last))

pub returns : goal.returns
returns c =
    let is_read = IsEditRead c.args.given.now.texts.now c.args.plan.now.changes.items in
    let end : length c.args.edits.now ≤ c.loop-edit.edit-index = omega arith in
    record { texts = subst (All is_read) (take_all c.loop-edit.edit-index c.args.edits.now end) c.loop-edit.invariant }
