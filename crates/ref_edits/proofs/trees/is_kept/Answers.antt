use Rattle.std.proofs.Common.{◌≡◌, string_bytes, ap, subst, sym, ◌∙◌, rules}
use Rattle.serde_json.proofs.Views.{view-Array}
use Rattle.serde_json.specs.Data.{array}
use Rattle.serde_json.specs.View.{view, items_view}
use Rattle.ref_edits.specs.Changed as spec
use Rattle.ref_edits.proofs.trees.is_kept.Goals as goal

pub returns-in_ok-are_items-in-Array-Array : goal.returns-in_ok-are_items-in-Array-Array
returns-in_ok-are_items-in-Array-Array c = λ is all.
    let w = spec.wanted_of c.args.wanted.now in
    let pair = c.args.pair.now in
    let ds = items_view c.in-Array-Array.items.items in
    let es = items_view c.in-Array-Array.now.items in
    let both = c.in_ok-are_items-in-Array-Array.ensures is w all in
    let before : view pair.before.now ≡ array ds = ap view c.in-Array-Array.is-0 ∙ view-Array c.in-Array-Array.items in
    let after : view pair.after.now ≡ array es = ap view c.in-Array-Array.is-1 ∙ view-Array c.in-Array-Array.now in
    let pointer : c.as_str-pointer.result.now ≡ string_bytes pair.pointer = search rules in
    let left : c.as_slice.result.now ≡ c.in-Array-Array.items.items = search rules in
    let right : c.as_slice-in-Array-Array.result.now ≡ c.in-Array-Array.now.items = search rules in
    let below : spec.AreItemsAfter w (string_bytes pair.pointer) 0 ds es =
    subst (λ p. spec.AreItemsAfter w p 0 ds es) pointer
    (subst (λ vs. spec.AreItemsAfter w c.as_str-pointer.result.now 0 (items_view vs) es) left
    (subst (λ ns. spec.AreItemsAfter w c.as_str-pointer.result.now 0 (items_view c.as_slice.result.now) (items_view ns)) right both.1)) in
    (both.0, subst (λ d. spec.IsAfter w (string_bytes pair.pointer) d (view pair.after.now)) (sym before) (es, after, below))
