use Rattle.std.proofs.Common.{◌≡◌, ◌<◌, ◌∙◌, ◌||◌, Bool, length, get_or, sym, ap, rules}
use Rattle.ref_files.specs.Excluded.{leaves_out}
use Rattle.ref_files.specs.declared.excluded.Excluded.{Excluded}
use Rattle.ref_files.proofs.Left.{kept_true, same_item, written_is, used_more, excluded_more}
use Rattle.ref_files.proofs.excluded.Exclusions.has.Goals as goal
use Rattle.ref_files.proofs.excluded.Exclusions.has.Goals.{then-index, else-index, then-is_excluded, else-is_excluded}

pub loop-number-preserved : goal.loop-number-preserved
loop-number-preserved c =
    let path = c.args.path.now in
    let xs = c.args.self.now.list.items in
    let now = c.loop-number.self.list.items in
    let i = c.loop-number.number in
    let e = c.index.result.now in
    let again = c.index-in-loop-number.result.now in
    let m = c.index_mut.result.now in
    let b = c.in_ok-is_left_out.is_left_out in
    let h : i < length xs = search rules in
    let is = c.loop-number.invariant.1 in
    let own : e ≡ get_or now i e = search rules in
    let own_again : again ≡ get_or now i again = search rules in
    let own_written : m ≡ get_or now i m = search rules in
    let says : b ≡ leaves_out path e.what = c.in_ok-is_left_out.ensures.value in
    let same : again ≡ e = same_item path xs now i again e h is own_again own in (
      elim c.if-is_excluded.branch [
        | then-is_excluded w ↦ w.is_excluded-is ∙ kept_true c.loop-number.is_excluded b w.if-is_excluded.true
        | else-is_excluded w ↦ w.is_excluded-is ∙ sym (ap (λ (t : Bool). t || b) w.if-is_excluded.false)
      ]
          ∙ excluded_more path xs now i e c.loop-number.is_excluded b h is own says c.loop-number.invariant.0,
      written_is now i m e _ (e.is_used || b) (same_item path xs now i m e h is own_written own)
          (elim c.if-index.branch [
            | then-index w ↦ w.t-22-is ∙ kept_true again.is_used b w.if-index.true
            | else-index w ↦ w.t-22-is ∙ sym (ap (λ (t : Bool). t || b) w.if-index.false)
          ]
          ∙ ap (λ (d : Excluded). d.is_used || b) same)
          ∙ used_more path xs now i e b h is own says,
    )
