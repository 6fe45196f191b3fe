use Rattle.std.proofs.Common.{◌∙◌, [], ◌∷◌, ◌++◌, ap, append_assoc, refl}
use Rattle.serde_json.specs.View.{view}
use Rattle.ref_paths.specs.Path.{Key}
use Rattle.ref_draft.specs.Views.{segment_parts, walked_child}
use Rattle.ref_index.proofs.Listing.{on_ok}
use Rattle.ref_findings.specs.inner.Seen.{read_again}
use Rattle.ref_findings.proofs.Placing.{place_is}
use Rattle.ref_findings.proofs.walk.push_child.Goals as goal

pub returns-clause-added : goal.returns-clause-added
returns-clause-added c =
    let p = c.in_ok-place.place in
    let above = c.args.path.now in
    let key = Key c.args.child.keyword.now in
    let rest = segment_parts c.args.child.segment in
    let whole = c.in_ok-path.ensures ∙ ap (λ q. q ++ rest) c.in_ok-keyword.ensures.value ∙ append_assoc above (key ∷ []) rest in
    on_ok c.push.result
    (λ grown. (
      p,
      grown,
      place_is p c.in_ok-path.path (view c.args.child.value.now) c.in_ok-draft.draft c.in_ok-outer.outer.value above c.args.base.now.value (read_again c.args.parent (walked_child c.args.child)) c.in_ok-place.ensures.value whole
          refl c.in_ok-draft.ensures c.in_ok-outer.ensures.cases,
    ))
    c.push.ensures
