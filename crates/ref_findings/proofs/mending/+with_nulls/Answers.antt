use Rattle.std.proofs.Common.{◌≡◌, [], ◌∷◌, ◌++◌, map, string_bytes, sym, ap, ◌∙◌, subst, append_assoc, rules}
use Rattle.std.specs.List.Sorted.{IsStrictlySortedBy}
use Rattle.std.specs.Map.{keys_of}
use Rattle.std.specs.String.{string_cmp}
use Rattle.serde_json.specs.Data.{put}
use Rattle.serde_json.specs.View.{view, items_view, members_view}
use Rattle.serde_json.proofs.Views.{Entry, members_view-insert_entry}
use Rattle.ref_paths.specs.Path.{Key, Index}
use Rattle.ref_findings.specs.Mending.{rests, with_nulls, members_with_nulls}
use Rattle.ref_findings.specs.inner.Seen.{lent_path}
use Rattle.ref_findings.proofs.Nulls.{with_last, view_last, nulled_more, nulled_put}
use Rattle.ref_findings.proofs.mending.+with_nulls.Goals as goal

pub items_with_nulls-loop-index-preserved : goal.items_with_nulls-loop-index-preserved
items_with_nulls-loop-index-preserved t c =
    let l = c.loop-index in
    let paths = map lent_path c.args.paths.now in
    let vs = c.args.items.now.items in
    let v = c.item-item.result in
    let made = c.in_ok-with_nulls.field-0 in
    let lent : c.as_slice.result.now ≡ c.in_ok-below.below.items = search rules in
    let below : map lent_path c.as_slice.result.now ≡ rests (Index l.index) paths = ap (map lent_path) lent ∙ c.in_ok-below.ensures in
    let is : view made ≡ with_nulls (rests (Index l.index) paths) (view v) = c.in_ok-with_nulls.ensures ∙ ap (λ ps. with_nulls ps (view v)) below in
    let more = nulled_more paths vs l.index v (search rules) (search rules) in
    ap items_view c.in_ok-push.ensures.items ∙ view_last l.list.items made ∙ ap (λ ds. with_last ds (view made)) l.invariant ∙ ap (with_last _) is ∙ sym more

pub members_with_nulls-loop-key-preserved : goal.members_with_nulls-loop-key-preserved
members_with_nulls-loop-key-preserved t c =
    let l = c.loop-key in
    let paths = map lent_path c.args.paths.now in
    let done = l.invariant.0 in
    let e : Entry = (c.in-Some.key.now, c.in-Some.member.now) in
    let left = c.next.new.self in
    let all : c.args.members.now.entries ≡ done ++ e ∷ left = l.invariant.1 ∙ ap (λ es. done ++ es) c.in-Some.ensures.steps in
    let last = nulled_put paths done e left (subst (λ es. IsStrictlySortedBy string_cmp (keys_of es)) all c.iter-key-items.ensures.ordered) in
    let named : string_bytes c.in_ok-name.name ≡ string_bytes e.0 = c.in_ok-name.ensures.cases in
    let text : c.as_str.result.now ≡ string_bytes e.0 = search rules in
    let lent : c.as_slice.result.now ≡ c.in_ok-below.below.items = search rules in
    let below : map lent_path c.as_slice.result.now ≡ rests (Key (string_bytes e.0)) paths = ap (map lent_path) lent ∙ c.in_ok-below.ensures ∙ ap (λ k. rests (Key k) paths) text in
    let is : view c.in_ok-with_nulls.field-0 ≡ with_nulls (rests (Key (string_bytes e.0)) paths) (view e.1) = c.in_ok-with_nulls.ensures ∙ ap (λ ps. with_nulls ps (view e.1)) below in (
      done ++ e ∷ [],
      all ∙ sym (append_assoc done (e ∷ []) left),
      ap members_view c.in_ok-insert.ensures.entries ∙ members_view-insert_entry l.copies.entries c.in_ok-name.name c.in_ok-with_nulls.field-0 ∙ rw (named, is, l.invariant.2) last,
    )
