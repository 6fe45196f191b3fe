-- Values without a key that begins with `$`, which is less than each letter: the first key in byte order shows it.
use Rattle.std.proofs.Common.{◌≡◌, ◌∙◌, ℕ, suc, ◌<◌, ◌≤◌, List, [], ◌∷◌, Option, Some, None, is_some, String, Global, Ordering, Less, Equal, Greater, string_bytes, nat_cmp, true≢false, false, sym, ap, refl, arith}
use Rattle.std.specs.Prelude.{option_and_then, slice_index, All}
use Rattle.std.specs.Map.{keys_of}
use Rattle.std.specs.Cmp.{nat_cmp_is, ranks}
use Rattle.std.specs.Cmp.Lexicographic.{slice_cmp}
use Rattle.std.specs.Ordering.{MatchOrdering, is_gt, match_ordering, ordering_then}
use Rattle.serde_json.specs.Data.{Data, null, boolean, number, string, array, object, Members}
use Rattle.serde_json.specs.Find.{get, get_member, as_object}
use Rattle.serde_json.specs.View.{view, members_view}
use Rattle.serde_json.specs.declared.value.Value.{Value}

at_least : (c d : ℕ) (o more : Ordering) → MatchOrdering o (c < d) (c ≡ d) (d < c) → is_gt (ordering_then o more) ≡ false → c ≤ d
at_least c d Less more less le = omega (arith, less)
at_least c d Equal more same le = omega (arith, same)
at_least c d Greater more greater le = absurd (true≢false le)

-- what is not less than a text that begins after `$` is greater than each that begins with it
less_than : (first text key : List ℕ) → 36 < slice_index first 0 → is_gt (slice_cmp nat_cmp first text) ≡ false → slice_cmp nat_cmp (36 ∷ key) text ≡ Less
less_than [] text key behind le = absurd (omega (arith, behind))
less_than (c ∷ rest) [] key behind le = absurd (true≢false le)
less_than (c ∷ rest) (d ∷ text) key behind le =
    let more : c ≤ d = at_least c d (nat_cmp c d) (slice_cmp nat_cmp rest text) (ranks c d) le in
    ap (λ o. ordering_then o (slice_cmp nat_cmp key text)) (sym (nat_cmp_is 36 d Less (omega (arith, behind, more))))

-- so no key begins with `$` where all are at least such a text
none_under : (first key : List ℕ) (es : List (String Global × Value)) → 36 < slice_index first 0 → All (λ k. is_gt (slice_cmp nat_cmp first (string_bytes k)) ≡ false) (keys_of es)
    → get_member (36 ∷ key) (members_view es) ≡ None
none_under first key [] behind all = refl
none_under first key (e ∷ es) behind all =
    let rest = get_member (36 ∷ key) (members_view es) in
    ap (λ o. match_ordering o rest (Some (view e.1)) rest) (less_than first (string_bytes e.0) key behind (all 0 e.0 (omega arith)))
    ∙ none_under first key es behind (λ k d within. all (suc k) d (omega (arith, within)))

get_is : (key : List ℕ) (value : Data) → get key value ≡ option_and_then (get_member key) (as_object value)
get_is key null = refl
get_is key (boolean b) = refl
get_is key (number n) = refl
get_is key (string s) = refl
get_is key (array ds) = refl
get_is key (object ms) = refl

pub get_none : (key : List ℕ) (value : Data) (members : Option Members) → members ≡ as_object value → option_and_then (get_member key) members ≡ None → get key value ≡ None
get_none key value members is none = get_is key value ∙ ap (option_and_then (get_member key)) (sym is) ∙ none

pub get_none_after : (first key : List ℕ) (value : Data) (es : List (String Global × Value)) → 36 < slice_index first 0 → All (λ k. is_gt (slice_cmp nat_cmp first (string_bytes k)) ≡ false) (keys_of es)
    → Some (members_view es) ≡ as_object value → is_some (get (36 ∷ key) value) ≡ false
get_none_after first key value es behind all is = ap is_some (get_none (36 ∷ key) value (Some (members_view es)) is (none_under first key es behind all))
