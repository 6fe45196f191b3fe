-- Trees with `null` at paths, one element or member after another.
use Rattle.std.proofs.Common.{◌≡◌, ◌∙◌, ℕ, suc, ◌+◌, ◌<◌, List, [], ◌∷◌, ◌++◌, map, take, length, get_or, refl, ap, sym, subst, string_bytes, string_cmp, nat_cmp, Less, Greater, Ordering, arith}
use Rattle.std.proofs.lemmas.Cmp.{nat_list_cmp_total}
use Rattle.std.proofs.lemmas.List.{take_more, length-take-le}
use Rattle.std.specs.Cmp.Lexicographic.{slice_cmp}
use Rattle.std.specs.List.{AllByRecursion}
use Rattle.std.specs.List.Sorted.{IsStrictlySortedBy}
use Rattle.std.specs.Map.{keys_of}
use Rattle.std.specs.Ordering.{ordering_reverse}
use Rattle.serde_json.specs.Data.{Data, Items, no_items, item, Members, no_members, member, put}
use Rattle.serde_json.specs.View.{view, items_view, members_view}
use Rattle.serde_json.specs.declared.value.Value.{Value}
use Rattle.serde_json.proofs.Views.{Entry}
use Rattle.ref_paths.specs.Path.{Part, Key, Index}
use Rattle.ref_findings.specs.Mending.{rests, with_nulls, items_with_nulls, members_with_nulls}

-- ---- elements

-- elements with one after them
abbrev pub with_last : Items → Data → Items
with_last no_items d = item d no_items
with_last (item e ds) d = item e (with_last ds d)

pub view_last : (vs : List Value) (v : Value) → items_view (vs ++ v ∷ []) ≡ with_last (items_view vs) (view v)
view_last [] v = refl
view_last (w ∷ vs) v = ap (item (view w)) (view_last vs v)

nulled_last : (paths : List (List Part)) (i n : ℕ) (vs : List Value) (v : Value) → i + length vs ≡ n
    → items_with_nulls paths i (items_view (vs ++ v ∷ [])) ≡ with_last (items_with_nulls paths i (items_view vs)) (with_nulls (rests (Index n) paths) (view v))
nulled_last paths i n [] v at =
    let same : i ≡ n = omega (arith, at) in
    ap (λ k. item (with_nulls (rests (Index k) paths) (view v)) no_items) same
nulled_last paths i n (w ∷ vs) v at = ap (item (with_nulls (rests (Index i) paths) (view w))) (nulled_last paths (suc i) n vs v (omega (arith, at)))

pub nulled_more : (paths : List (List Part)) (vs : List Value) (i : ℕ) (v : Value) → i < length vs → v ≡ get_or vs i v
    → items_with_nulls paths 0 (items_view (take (i + 1) vs)) ≡ with_last (items_with_nulls paths 0 (items_view (take i vs))) (with_nulls (rests (Index i) paths) (view v))
nulled_more paths vs i v within is =
    ap (λ l. items_with_nulls paths 0 (items_view l)) (take_more vs i v within ∙ ap (λ w. take i vs ++ w ∷ []) (sym is))
    ∙ nulled_last paths 0 i (take i vs) v (omega (arith, length-take-le i vs (omega (arith, within))))

-- ---- members

below_middle : (first : Entry) (es : List Entry) (e : Entry) (more : List Entry) → AllByRecursion (λ key. string_cmp first.0 key ≡ Less) (keys_of (es ++ e ∷ more)) → string_cmp first.0 e.0 ≡ Less
below_middle first [] e more all = all.0
below_middle first (x ∷ es) e more all = below_middle first es e more all.1

-- a member whose key is above those before it goes last
pub nulled_put : (paths : List (List Part)) (done : List Entry) (e : Entry) (more : List Entry) → IsStrictlySortedBy string_cmp (keys_of (done ++ e ∷ more))
    → put (string_bytes e.0) (with_nulls (rests (Key (string_bytes e.0)) paths) (view e.1)) (members_with_nulls paths (members_view done)) ≡ members_with_nulls paths (members_view (done ++ e ∷ []))
unfolding IsStrictlySortedBy
nulled_put paths [] e more sorted = refl
nulled_put paths (first ∷ done) e more sorted =
    let above : slice_cmp nat_cmp (string_bytes e.0) (string_bytes first.0) ≡ Greater =
    nat_list_cmp_total.antisymm (string_bytes e.0) (string_bytes first.0) ∙ ap ordering_reverse (below_middle first done e more sorted.0) in
    rw above (ap (member (string_bytes first.0) (with_nulls (rests (Key (string_bytes first.0)) paths) (view first.1))) (nulled_put paths done e more sorted.1))
