-- Where a key's pair is, and what a write of its value leaves.
use Rattle.std.proofs.Common.{◌≡◌, ℕ, zero, suc, ◌+◌, ◌<◌, Bool, true, false, cond, not, ltb, List, [], ◌∷◌, ◌++◌, length, take, drop, set, Option, Some, None, is_some, slice_get, slice_index_or, position, IsSome, ⊎_elim, sym, refl, ap, ◌∙◌, subst, arith, length-append, length-set}
use Rattle.std.specs.Map.{lookup, keys_of}
use Rattle.std.specs.List.{position_or_len}
use Rattle.std.specs.Prelude.{MatchOption}
use Rattle.std.specs.Option.{UnwrapsOrElse}
use Rattle.arrayvec.specs.ArrayVec.{ArrayVec}
use Rattle.std.proofs.lemmas.Bool.{true≢false, cond-true, cond-false, cond_both, cases_Bool, ltb-true}
use Rattle.indexmap.specs.Layout.{set_value_at, length-set_value_at}
use Rattle.indexmap.specs.IndexMap.{insert_entry}
use Rattle.ref_parts.specs.inner.Slots.{pairs, AllHold, EachOnce, IsPlaceOf, IsAt, IsFormOf, entries_of}
use Rattle.ref_parts.specs.inner.Places.{with_value, with_form_value}
use Rattle.ref_parts.specs.declared.small_map.Form.{Form}
use Rattle.ref_parts.specs.declared.small_map.Form.TheVariants.{Small, Large}
use Rattle.ref_parts.proofs.MapLaws.{length-pairs, pairs-append, lookup-append_none, insert_at, insert_same, insert_again}

-- ---- slots

-- where each slot holds a pair, a place of the pairs is a place of the slots
pub slot_pair : {K V : Type 0} (slots : List (Option (K × V))) (i : ℕ) → AllHold slots → i < length slots → slice_get (pairs slots) i ≡ slice_index_or slots i None
slot_pair [] i hold within = absurd (omega (arith, within))
slot_pair (None ∷ slots) i hold within = absurd hold
slot_pair (Some pair ∷ slots) zero hold within = refl
slot_pair (Some pair ∷ slots) (suc i) hold within = slot_pair slots i hold (omega (arith, within))

pub slot_holds : {K V : Type 0} (slots : List (Option (K × V))) (i : ℕ) → AllHold slots → i < length slots → IsSome (slice_index_or slots i None)
slot_holds [] i hold within = absurd (omega (arith, within))
slot_holds (None ∷ slots) i hold within = absurd hold
slot_holds (Some pair ∷ slots) zero hold within = refl
slot_holds (Some pair ∷ slots) (suc i) hold within = slot_holds slots i hold (omega (arith, within))

pub pairs_before : {K V : Type 0} (slots : List (Option (K × V))) (i : ℕ) → AllHold slots → i < length slots → length (pairs (take i slots)) ≡ i
pairs_before [] i hold within = absurd (omega (arith, within))
pairs_before (None ∷ slots) i hold within = absurd hold
pairs_before (Some pair ∷ slots) zero hold within = refl
pairs_before (Some pair ∷ slots) (suc i) hold within = ap suc (pairs_before slots i hold (omega (arith, within)))

-- a write in a slot
pairs_written : {K V : Type 0} (slots : List (Option (K × V))) (i : ℕ) (w : V) → AllHold slots → i < length slots → pairs (set slots i (with_value (slice_index_or slots i None) w)) ≡ set_value_at (pairs slots) i w
pairs_written [] i w hold within = absurd (omega (arith, within))
pairs_written (None ∷ slots) i w hold within = absurd hold
pairs_written (Some pair ∷ slots) zero w hold within = refl
pairs_written (Some pair ∷ slots) (suc i) w hold within = ap (λ es. pair ∷ es) (pairs_written slots i w hold (omega (arith, within)))

AllHold_written : {K V : Type 0} (slots : List (Option (K × V))) (i : ℕ) (w : V) → AllHold slots → i < length slots → AllHold (set slots i (with_value (slice_index_or slots i None) w))
AllHold_written [] i w hold within = absurd (omega (arith, within))
AllHold_written (None ∷ slots) i w hold within = absurd hold
AllHold_written (Some pair ∷ slots) zero w hold within = hold
AllHold_written (Some pair ∷ slots) (suc i) w hold within = AllHold_written slots i w hold (omega (arith, within))

-- ---- entries

none_written : {K V : Type 0} (test : K → Bool) (es : List (K × V)) (i : ℕ) (w : V) → lookup test es ≡ None → lookup test (set_value_at es i w) ≡ None
none_written test [] i w = λ none. none
none_written test (e ∷ es) zero w =
    elim (test e.0) as (λ b. cond b (Some e.1) (lookup test es) ≡ None → cond b (Some w) (lookup test es) ≡ None) [
      | true ↦ λ none. absurd (cc)
      | false ↦ λ none. none
    ]
none_written test (e ∷ es) (suc i) w =
    elim (test e.0) as (λ b. cond b (Some e.1) (lookup test es) ≡ None → cond b (Some e.1) (lookup test (set_value_at es i w)) ≡ None) [
      | true ↦ λ none. absurd (cc)
      | false ↦ λ none. none_written test es i w none
    ]

EachOnce_written : {K V : Type 0} (eq : K → K → Bool) (es : List (K × V)) (i : ℕ) (w : V) → EachOnce eq es → EachOnce eq (set_value_at es i w)
EachOnce_written eq [] i w once = once
EachOnce_written eq (e ∷ es) zero w once = once
EachOnce_written eq (e ∷ es) (suc i) w once = (none_written (eq e.0) es i w once.0, EachOnce_written eq es i w once.1)

-- the entry at the end of a front
pub get_cut : {X : Type 0} (front : List X) (x : X) (back : List X) → slice_get (front ++ x ∷ back) (length front) ≡ Some x
get_cut [] x back = refl
get_cut (y ∷ front) x back = get_cut front x back

cut_written : {K V : Type 0} (front : List (K × V)) (pair : K × V) (back : List (K × V)) (w : V) → set_value_at (front ++ pair ∷ back) (length front) w ≡ front ++ (pair.0, w) ∷ back
cut_written [] pair back w = refl
cut_written (e ∷ front) pair back w = ap (λ es. e ∷ es) (cut_written front pair back w)

-- what a write leaves of either form
pub entries_written : {K V : Type 0} {n : ℕ} (eq : K → K → Bool) (form : Form K V n) (place : ℕ) (w : V) → IsFormOf eq n form → place < length (entries_of form) → entries_of (with_form_value form place w) ≡ set_value_at (entries_of form) place w
entries_written eq (Small slots) place w is within = pairs_written slots.items place w is.0 (omega (arith, within, length-pairs slots.items is.0))
entries_written eq (Large map) place w is within = refl

pub form_written : {K V : Type 0} {n : ℕ} (eq : K → K → Bool) (form : Form K V n) (place : ℕ) (w : V) → IsFormOf eq n form → place < length (entries_of form) → IsFormOf eq n (with_form_value form place w)
form_written eq (Small slots) place w is within =
    let fits : place < length slots.items = omega (arith, within, length-pairs slots.items is.0) in (
      AllHold_written slots.items place w is.0 fits,
      omega (arith, is.1, length-set slots.items place (with_value (slice_index_or slots.items place None) w)),
      subst (EachOnce eq) (sym (pairs_written slots.items place w is.0 fits)) (EachOnce_written eq (pairs slots.items) place w is.2),
    )
form_written eq (Large map) place w is within = omega (arith, is, length-set_value_at map.entries place w)

-- ---- places

module _ {K V : Type 0} (eq : K → K → Bool) (key : K) where
  pub IsAt_moved : (es same : List (K × V)) (place index : ℕ) → same ≡ es → index ≡ place → IsAt eq key es place → IsAt eq key same index
  IsAt_moved es same place index e i at = record { front = at.front; pair = at.pair; back = at.back; cut = e ∙ at.cut; after = at.after ∙ sym i; first = at.first; here = at.here }

  pub IsAt_within : (es : List (K × V)) (place : ℕ) → IsAt eq key es place → place < length es
  IsAt_within es place at = omega (arith, at.after, ap length at.cut, length-append at.front (at.pair ∷ at.back))

  pub IsAt_found : (es : List (K × V)) (place : ℕ) (at : IsAt eq key es place) → lookup (eq key) es ≡ Some at.pair.1
  IsAt_found es place at =
      ap (lookup (eq key)) at.cut ∙ lookup-append_none (eq key) at.front (at.pair ∷ at.back) at.first ∙ cond-true _ _ _ at.here

  pub IsAt_got : (es : List (K × V)) (place : ℕ) (at : IsAt eq key es place) → slice_get es place ≡ Some at.pair
  IsAt_got es place at = ap (λ xs. slice_get xs place) at.cut ∙ ap (slice_get (at.front ++ at.pair ∷ at.back)) (sym at.after) ∙ get_cut at.front at.pair at.back

  -- one more entry before them
  behind : (e : K × V) (es : List (K × V)) (place : ℕ) → eq key e.0 ≡ false → IsAt eq key es place → IsAt eq key (e ∷ es) (1 + place)
  behind e es place apart at = record {
    front = e ∷ at.front;
    pair = at.pair;
    back = at.back;
    cut = ap (λ xs. e ∷ xs) at.cut;
    after = omega (arith, at.after);
    first = cond-false _ _ _ apart ∙ at.first;
    here = at.here;
  }

  at_front : (e : K × V) (es : List (K × V)) → eq key e.0 ≡ true → IsAt eq key (e ∷ es) 0
  at_front e es here = record { front = []; pair = e; back = es; cut = refl; after = refl; first = refl; here = here }

  -- the first place of the key is that of its entry
  pub IsAt_first : (es : List (K × V)) → position_or_len (eq key) (keys_of es) < length (keys_of es) → IsAt eq key es (position_or_len (eq key) (keys_of es))
  IsAt_first [] within = absurd (omega (arith, within))
  IsAt_first (e ∷ es) within =
      ⊎_elim
      (λ (yes : eq key e.0 ≡ true). subst (IsAt eq key (e ∷ es)) (sym (ap (λ b. cond (not b) (1 + position_or_len (eq key) (keys_of es)) 0) yes)) (at_front e es yes))
      (λ (no : eq key e.0 ≡ false).
      let place = ap (λ b. cond (not b) (1 + position_or_len (eq key) (keys_of es)) 0) no in
      subst (IsAt eq key (e ∷ es)) (sym place) (behind e es _ no (IsAt_first es (omega (arith, within, place)))))
      (cases_Bool (eq key e.0))

  -- and it is where an insertion puts the entry
  pub IsAt_insert : (es : List (K × V)) (v : V) → eq key key ≡ true → IsAt eq key (insert_entry eq es key v) (position_or_len (eq key) (keys_of es))
  IsAt_insert [] v own = at_front (key, v) [] own
  IsAt_insert (e ∷ es) v own =
      ⊎_elim
      (λ (yes : eq key e.0 ≡ true).
      subst (IsAt eq key (insert_entry eq (e ∷ es) key v)) (sym (ap (λ b. cond (not b) (1 + position_or_len (eq key) (keys_of es)) 0) yes))
      (subst (λ xs. IsAt eq key xs 0) (sym (cond-true (eq key e.0) _ _ yes)) (at_front (e.0, v) es yes)))
      (λ (no : eq key e.0 ≡ false).
      subst (IsAt eq key (insert_entry eq (e ∷ es) key v)) (sym (ap (λ b. cond (not b) (1 + position_or_len (eq key) (keys_of es)) 0) no))
      (subst (λ xs. IsAt eq key xs (1 + position_or_len (eq key) (keys_of es))) (sym (cond-false (eq key e.0) _ _ no)) (behind e (insert_entry eq es key v) _ no (IsAt_insert es v own))))
      (cases_Bool (eq key e.0))

  -- where a look-up by place finds one
  pub IsAt_position : (es : List (K × V)) (i : ℕ) → position (eq key) (keys_of es) ≡ Some i → IsAt eq key es i
  IsAt_position es i =
      let n = position_or_len (eq key) (keys_of es) in
      cond_both (ltb n (length (keys_of es))) (Some n) None (λ o. o ≡ Some i → IsAt eq key es i)
      (λ yes found. let same : n ≡ i = cc in subst (IsAt eq key es) same (IsAt_first es (ltb-true _ _ yes)))
      (λ no found. absurd (cc))

  pub cut_at : (es : List (K × V)) (place : ℕ) (w : V) (at : IsAt eq key es place) → set_value_at es place w ≡ at.front ++ (at.pair.0, w) ∷ at.back
  cut_at es place w at =
      ap (λ xs. set_value_at xs place w) at.cut ∙ ap (λ i. set_value_at (at.front ++ at.pair ∷ at.back) i w) (sym at.after) ∙ cut_written at.front at.pair at.back w

  -- a write leaves the key where it is
  pub IsAt_written : (es : List (K × V)) (place : ℕ) (w : V) → IsAt eq key es place → IsAt eq key (set_value_at es place w) place
  IsAt_written es place w at = record { front = at.front; pair = (at.pair.0, w); back = at.back; cut = cut_at es place w at; after = at.after; first = at.first; here = at.here }

  -- the slots' place is that of their pairs
  pub IsAt_slot : (slots : List (Option (K × V))) (i : ℕ) → AllHold slots → IsPlaceOf eq key slots i → IsAt eq key (pairs slots) i
  IsAt_slot slots i hold place =
      let front = take i slots in let back = drop (i + 1) slots in record {
        front = pairs front;
        pair = place.here.0;
        back = pairs back;
        cut = ap pairs place.here.1 ∙ pairs-append front (Some place.here.0 ∷ back);
        after = pairs_before slots i hold place.within;
        first = place.first;
        here = place.here.2;
      }

-- an entry after entries that lack its key
pub IsAt_last : {K V : Type 0} (eq : K → K → Bool) (key : K) (v : V) (es : List (K × V)) → eq key key ≡ true → lookup (eq key) es ≡ None → IsAt eq key (es ++ (key, v) ∷ []) (length es)
IsAt_last eq key v es own none = record { front = es; pair = (key, v); back = []; cut = refl; after = refl; first = none; here = own }

module _ {K V : Type 0} {n : ℕ} (eq : K → K → Bool) (key : K) (form : Form K V n) where
  abbrev pub Finds : Option ℕ → Type 0
  Finds r = MatchOption r (lookup (eq key) (entries_of form) ≡ None) (IsAt eq key (entries_of form))

  pub finds_slot : (slots : ArrayVec (Option (K × V))) (seen : List (Option (K × V))) (r : Option ℕ) → form ≡ Small slots → seen ≡ slots.items → AllHold slots.items → MatchOption r (lookup (eq key) (pairs seen) ≡ None) (IsPlaceOf eq key seen) → Finds r
  finds_slot slots seen None is same hold none = ap (λ f. lookup (eq key) (entries_of f)) is ∙ ap (λ s. lookup (eq key) (pairs s)) (sym same) ∙ none
  finds_slot slots seen (Some i) is same hold place = subst (λ f. IsAt eq key (entries_of f) i) (sym is) (IsAt_slot eq key slots.items i hold (subst (λ s. IsPlaceOf eq key s i) same place))

  pub finds_entry : (entries : List (K × V)) (r : Option ℕ) → entries_of form ≡ entries → r ≡ position (eq key) (keys_of entries) → is_some r ≡ is_some (lookup (eq key) entries) → Finds r
  finds_entry entries None is at found = ap (lookup (eq key)) is ∙ absent (lookup (eq key) entries) (sym found)
    where
      absent : {X : Type 0} (o : Option X) → is_some o ≡ false → o ≡ None
      absent None e = refl
      absent (Some x) e = absurd (true≢false e)
  finds_entry entries (Some i) is at found = subst (λ es. IsAt eq key es i) (sym is) (IsAt_position eq key entries i (sym at))

module _ {K V : Type 0} (eq : K → K → Bool) (key : K) where
  -- a write at the key's place puts the value there
  pub written_is_put : (es : List (K × V)) (place : ℕ) (w : V) → IsAt eq key es place → set_value_at es place w ≡ insert_entry eq es key w
  written_is_put es place w at =
      cut_at eq key es place w at ∙ sym (insert_at eq key at.front at.back at.pair w at.first at.here) ∙ ap (λ xs. insert_entry eq xs key w) (sym at.cut)

  -- also where one was put before
  pub put_and_written : eq key key ≡ true → (es : List (K × V)) (place : ℕ) (v w : V) → IsAt eq key (insert_entry eq es key v) place → set_value_at (insert_entry eq es key v) place w ≡ insert_entry eq es key w
  put_and_written own es place v w at = written_is_put (insert_entry eq es key v) place w at ∙ insert_again eq key own es v w

  -- the value that a key has, which is there
  pub starts_as : (es : List (K × V)) (place : ℕ) (P : V → Type 0) → IsAt eq key es place → (value : V) × UnwrapsOrElse (lookup (eq key) es) P value × (es ≡ insert_entry eq es key value)
  starts_as es place P at =
      let found = IsAt_found eq key es place at in
      (at.pair.1, subst (λ o. UnwrapsOrElse o P at.pair.1) (sym found) refl, sym (insert_same eq key es at.pair.1 found))
