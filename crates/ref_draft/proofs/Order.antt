-- The members of a value come in byte order of their keys, as the map has them.
use Rattle.std.proofs.Common.{◌≡◌, List, [], ◌∷◌, None, Some, String, Global, Less, string_cmp, string_bytes, nat_cmp, subst}
use Rattle.std.specs.Cmp.Lexicographic.{slice_cmp}
use Rattle.std.specs.List.{AllByRecursion}
use Rattle.std.specs.List.Sorted.{IsStrictlySortedBy}
use Rattle.std.specs.Map.{keys_of as entry_keys}
use Rattle.serde_json.specs.Data.{Data, null, boolean, number, string, array, object, Members}
use Rattle.serde_json.specs.Find.{as_object}
use Rattle.serde_json.specs.View.{members_view}
use Rattle.serde_json.specs.declared.value.Value.{Value}
use Rattle.ref_draft.specs.Children.{keys_of, InKeyOrder}

below : (key : String Global) (es : List (String Global × Value)) → AllByRecursion (λ k. string_cmp key k ≡ Less) (entry_keys es) → AllByRecursion (λ k. slice_cmp nat_cmp (string_bytes key) k ≡ Less) (keys_of (members_view es))
below key [] p = tt
below key (e ∷ es) p = (p.0, below key es p.1)

ordered_members : (es : List (String Global × Value)) → IsStrictlySortedBy string_cmp (entry_keys es) → IsStrictlySortedBy (slice_cmp nat_cmp) (keys_of (members_view es))
unfolding IsStrictlySortedBy
ordered_members [] p = tt
ordered_members (e ∷ es) p = (below e.0 es p.0, ordered_members es p.1)

pub ordered_object : (t : Data) (es : List (String Global × Value)) → Some (members_view es) ≡ as_object t → IsStrictlySortedBy string_cmp (entry_keys es) → InKeyOrder t
ordered_object null es is p = absurd (cc)
ordered_object (boolean b) es is p = absurd (cc)
ordered_object (number x) es is p = absurd (cc)
ordered_object (string s) es is p = absurd (cc)
ordered_object (array ds) es is p = absurd (cc)
ordered_object (object ms) es is p =
    let same : members_view es ≡ ms = cc in
    subst (λ (m : Members). IsStrictlySortedBy (slice_cmp nat_cmp) (keys_of m)) same (ordered_members es p)

pub ordered_other : (t : Data) → None ≡ as_object t → InKeyOrder t
unfolding IsStrictlySortedBy
ordered_other null is = tt
ordered_other (boolean b) is = tt
ordered_other (number x) is = tt
ordered_other (string s) is = tt
ordered_other (array ds) is = tt
ordered_other (object ms) is = absurd (cc)
