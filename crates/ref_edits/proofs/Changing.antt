-- Values that are to be looked at, and what is above them.
use Rattle.std.specs.Prelude.{◌||◌}
use Rattle.std.proofs.Common.{◌≡◌, ℕ, suc, ◌+◌, ◌<◌, List, [], ◌∷◌, ◌++◌, Bool, map, length, drop, get_or, refl, sym, ap, ap₂, ◌∙◌, subst, add-one, bytes_eq, drop_of_length-le, ◌≤◌, All, zero, arith}
use Rattle.std.specs.Borrow.{Bor}
use Rattle.std.specs.List.{list_any}
use Rattle.std.proofs.lemmas.List.{drop_more}
use Rattle.std.specs.Prelude.{Option, None, Some, String}
use Rattle.std.specs.declared.alloc.Global.{Global}
use Rattle.serde_json.specs.Data.{Data, null, boolean, number, string, array, object, Items, item, no_items, Members, no_members, member}
use Rattle.serde_json.specs.Find.{as_object, get_member}
use Rattle.serde_json.specs.View.{view, items_view, members_view}
use Rattle.serde_json.specs.declared.value.Value.{Value}
use Rattle.ref_edits.specs.Changed.{Wanted, IsAfter, AreItemsAfter, AreBelow, IsAt, IsFree, below_index, count, keys_with}
use Rattle.ref_edits.specs.declared.trees.Pair.{Pair}
use Rattle.ref_edits.specs.inner.Waiting.{AllAfter, IsPairAfter}

-- all of them and one more
pub all_last : (w : Wanted) (ps : List Pair) (p : Pair) → AllAfter w (ps ++ p ∷ []) → AllAfter w ps × IsPairAfter w p
all_last w [] p (is, none) = (tt, is)
all_last w (q ∷ ps) p (is, more) = let both = all_last w ps p more in ((is, both.0), both.1)

pub all_with : (w : Wanted) (ps : List Pair) (p : Pair) → AllAfter w ps → IsPairAfter w p → AllAfter w (ps ++ p ∷ [])
all_with w [] p none is = (is, tt)
all_with w (q ∷ ps) p (first, more) is = (first, all_with w ps p more is)

-- the items from one on
items_from : (vs : List Value) (i : ℕ) (v : Value) → i < length vs → v ≡ get_or vs i v → items_view (drop i vs) ≡ item (view v) (items_view (drop (i + 1) vs))
items_from vs i v within is = ap items_view (drop_more vs i v within) ∙ ap (λ u. items_view (u ∷ drop (i + 1) vs)) (sym is)

pub next_items : (w : Wanted) (p : List ℕ) (i : ℕ) (vs ns : List Value) (v n : Value)
    → i < length vs → v ≡ get_or vs i v → i < length ns → n ≡ get_or ns i n
    → IsAfter w (below_index p i) (view v) (view n)
    → AreItemsAfter w p (i + 1) (items_view (drop (i + 1) vs)) (items_view (drop (i + 1) ns))
    → AreItemsAfter w p i (items_view (drop i vs)) (items_view (drop i ns))
next_items w p i vs ns v n within is within-2 is-2 after more =
    subst (λ ds. AreItemsAfter w p i ds (items_view (drop i ns))) (sym (items_from vs i v within is)) (
      view n,
      items_view (drop (i + 1) ns),
      items_from ns i n within-2 is-2,
      after,
      subst (λ j. AreItemsAfter w p j (items_view (drop (i + 1) vs)) (items_view (drop (i + 1) ns))) (add-one i) more,
    )

-- none is left at the end
pub no_items_left : (w : Wanted) (p : List ℕ) (i : ℕ) (vs ns : List Value) → length vs ≤ i → length ns ≤ i
    → AreItemsAfter w p i (items_view (drop i vs)) (items_view (drop i ns))
no_items_left w p i vs ns end end-2 =
    subst (λ (l : List Value). AreItemsAfter w p i (items_view l) (items_view (drop i ns))) (sym (drop_of_length-le vs end)) (ap items_view (drop_of_length-le ns end-2))

pub any_map : {A B : Type 0} (test : B → Bool) (f : A → B) (xs : List A) → list_any test (map f xs) ≡ list_any (λ x. test (f x)) xs
any_map test f [] = refl
any_map test f (x ∷ xs) = ap (λ more. test (f x) || more) (any_map test f xs)

-- what an object has
pub object_is : (d : Data) (ms : Members) → Some ms ≡ as_object d → d ≡ object ms
object_is (object m) ms is = ap object (sym (some_is ms m is)) where
  some_is : (a b : Members) → Some a ≡ Some b → a ≡ b
  some_is a b is = cc
object_is null ms is = cc
object_is (boolean b) ms is = cc
object_is (number n) ms is = cc
object_is (string s) ms is = cc
object_is (array ds) ms is = cc

pub count_entries : (es : List (String Global × Value)) → count (members_view es) ≡ length es
count_entries [] = refl
count_entries (e ∷ es) = ap suc (count_entries es)

-- the rest is below, with a key that its member keeps, and with a new one
pub kept_key : (w : Wanted) (p : List ℕ) (ms ns : Members) (keys : List (List ℕ)) (k : List ℕ) (o : Option (List ℕ)) (e : Data) (rest : Members)
    → o ≡ None → get_member k ns ≡ Some e → AreBelow w p ms ns keys rest
    → IsAt ms ns keys k o e × AreBelow w p ms ns (keys_with keys o) rest
kept_key w p ms ns keys k o e rest none found below =
    subst (λ o. IsAt ms ns keys k o e × AreBelow w p ms ns (keys_with keys o) rest) (sym none) (found, below)

pub new_key : (w : Wanted) (p : List ℕ) (ms ns : Members) (keys : List (List ℕ)) (k : List ℕ) (o : Option (List ℕ)) (e : Data) (rest : Members) (key : List ℕ)
    → o ≡ Some key → IsFree ms keys key → get_member key ns ≡ Some e → AreBelow w p ms ns (keys ++ key ∷ []) rest
    → IsAt ms ns keys k o e × AreBelow w p ms ns (keys_with keys o) rest
new_key w p ms ns keys k o e rest key some free found below =
    subst (λ o. IsAt ms ns keys k o e × AreBelow w p ms ns (keys_with keys o) rest) (sym some) ((free, found), below)

pub all_one : {A : Type 0} (P : A → Type 0) (x : A) → P x → All P (x ∷ [])
all_one P x is zero d within = is
all_one P x is (suc k) d within = absurd (omega (arith, within))
