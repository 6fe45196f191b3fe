-- What the steps of `src/small_map.rt` keep.
use Rattle.std.proofs.Common.{◌≡◌, ℕ, suc, ◌+◌, ◌<◌, ◌≤◌, Bool, true, false, cond, List, [], ◌∷◌, ◌++◌, length, get_or, take, drop, set, Option, Some, None, is_some, option_map, ⊎_elim, sym, refl, ap, ◌∙◌, subst, arith, append-nil, add-one, take-append-drop}
use Rattle.std.specs.Prelude.{⊤}
use Rattle.std.specs.List.{refill, AllZip}
use Rattle.std.specs.Map.{lookup, keys_of}
use Rattle.std.specs.Cmp.{IsEquivalence}
use Rattle.std.proofs.lemmas.Bool.{cond-true, cond-false, cases_Bool}
use Rattle.std.proofs.lemmas.Map.Entries.{lookup_clone}
use Rattle.std.proofs.lemmas.List.{take_more, drop_more, set_split, take_all, drop_all}
use Rattle.indexmap.specs.IndexMap.{insert_entry}
use Rattle.ref_parts.specs.FiniteMap.{Puts, IsClone}
use Rattle.ref_parts.specs.inner.Slots.{pairs, AllHold, EachOnce}

-- ---- slots

pub length-pairs : {K V : Type 0} (slots : List (Option (K × V))) → AllHold slots → length (pairs slots) ≡ length slots
length-pairs [] hold = refl
length-pairs (None ∷ slots) hold = absurd hold
length-pairs (Some pair ∷ slots) hold = ap suc (length-pairs slots hold)

pub length-pairs-le : {K V : Type 0} (slots : List (Option (K × V))) → length (pairs slots) ≤ length slots
length-pairs-le [] = omega arith
length-pairs-le (None ∷ slots) = omega (arith, length-pairs-le slots)
length-pairs-le (Some pair ∷ slots) = omega (arith, length-pairs-le slots)

pub pairs-append : {K V : Type 0} (slots more : List (Option (K × V))) → pairs (slots ++ more) ≡ pairs slots ++ pairs more
pairs-append [] more = refl
pairs-append (None ∷ slots) more = pairs-append slots more
pairs-append (Some pair ∷ slots) more = ap (λ x. pair ∷ x) (pairs-append slots more)

pub AllHold-append : {K V : Type 0} (slots more : List (Option (K × V))) → AllHold slots → AllHold more → AllHold (slots ++ more)
AllHold-append [] more hold and = and
AllHold-append (None ∷ slots) more hold and = absurd hold
AllHold-append (Some pair ∷ slots) more hold and = AllHold-append slots more hold and

-- the slots around one
pub split_read : {X : Type 0} (xs : List X) (i : ℕ) (x : X) → i < length xs → x ≡ get_or xs i x → xs ≡ take i xs ++ (x ∷ drop (i + 1) xs)
split_read xs i x within is =
    sym (take-append-drop i xs) ∙ ap (λ r. take i xs ++ r) (drop_more xs i x within ∙ ap (λ y. y ∷ drop (i + 1) xs) (sym is))

pub set_read : {X : Type 0} (xs : List X) (i : ℕ) (y : X) → i < length xs → set xs i y ≡ take i xs ++ (y ∷ drop (i + 1) xs)
set_read xs i y within = set_split xs i y within ∙ ap (λ n. take i xs ++ (y ∷ drop n xs)) (sym (add-one i))

-- ---- look-ups

pub lookup-append_none : {K V : Type 0} (test : K → Bool) (xs ys : List (K × V)) → lookup test xs ≡ None → lookup test (xs ++ ys) ≡ lookup test ys
lookup-append_none test [] ys = λ none. refl
lookup-append_none test (e ∷ xs) ys =
    elim (test e.0) as (λ b. cond b (Some e.1) (lookup test xs) ≡ None → cond b (Some e.1) (lookup test (xs ++ ys)) ≡ lookup test ys) [
      | true ↦ λ none. absurd (cc)
      | false ↦ λ none. lookup-append_none test xs ys none
    ]

-- tests with the same results find the same
pub lookup_alike : {K V : Type 0} (test other : K → Bool) (xs : List (K × V)) → ((x : K) → test x ≡ other x) → lookup test xs ≡ lookup other xs
lookup_alike test other [] same = refl
lookup_alike test other (e ∷ xs) same = ap (λ b. cond b (Some e.1) (lookup test xs)) (same e.0) ∙ ap (λ o. cond (other e.0) (Some e.1) o) (lookup_alike test other xs same)

-- one more slot without the key
pub place_turn : {K V : Type 0} (test : K → Bool) (slots : List (Option (K × V))) (i : ℕ) (slot : Option (K × V)) → i < length slots → slot ≡ get_or slots i slot → lookup test (pairs (take i slots)) ≡ None → lookup test (pairs (slot ∷ [])) ≡ None → lookup test (pairs (take (i + 1) slots)) ≡ None
place_turn test slots i slot within is before here =
    ap (λ s. lookup test (pairs s)) (take_more slots i slot within ∙ ap (λ y. take i slots ++ y ∷ []) (sym is))
    ∙ ap (lookup test) (pairs-append (take i slots) (slot ∷ []))
    ∙ lookup-append_none test (pairs (take i slots)) (pairs (slot ∷ [])) before ∙ here

-- where a look-up finds nothing, each key is another
lookup-head_none : {K V : Type 0} (test : K → Bool) (e : K × V) (es : List (K × V)) → lookup test (e ∷ es) ≡ None → (test e.0 ≡ false) × (lookup test es ≡ None)
lookup-head_none test e es =
    elim (test e.0) as (λ b. cond b (Some e.1) (lookup test es) ≡ None → (b ≡ false) × (lookup test es ≡ None)) [
      | true ↦ λ none. absurd (cc)
      | false ↦ λ none. (refl, none)
    ]

-- ---- a value put at a key

module _ {K V : Type 0} (eq : K → K → Bool) (key : K) where
  -- a key that is missing comes last
  pub insert_missing : (es : List (K × V)) (v : V) → lookup (eq key) es ≡ None → insert_entry eq es key v ≡ es ++ (key, v) ∷ []
  insert_missing [] v none = refl
  insert_missing (e ∷ es) v none =
      let parts = lookup-head_none (eq key) e es none in
      cond-false (eq key e.0) ((e.0, v) ∷ es) (e ∷ insert_entry eq es key v) parts.0 ∙ ap (λ xs. e ∷ xs) (insert_missing es v parts.1)

  -- the first entry whose key is equal takes the value
  pub insert_at : (xs ys : List (K × V)) (old : K × V) (v : V) → lookup (eq key) xs ≡ None → eq key old.0 ≡ true → insert_entry eq (xs ++ old ∷ ys) key v ≡ xs ++ (old.0, v) ∷ ys
  insert_at [] ys old v none here = cond-true (eq key old.0) ((old.0, v) ∷ ys) (old ∷ insert_entry eq ys key v) here
  insert_at (x ∷ xs) ys old v none here =
      let parts = lookup-head_none (eq key) x xs none in
      cond-false (eq key x.0) ((x.0, v) ∷ (xs ++ old ∷ ys)) (x ∷ insert_entry eq (xs ++ old ∷ ys) key v) parts.0 ∙ ap (λ es. x ∷ es) (insert_at xs ys old v parts.1 here)

  -- the value that is there changes nothing
  pub insert_same : (es : List (K × V)) (v : V) → lookup (eq key) es ≡ Some v → insert_entry eq es key v ≡ es
  insert_same [] v = λ has. absurd (cc)
  insert_same (e ∷ es) v =
      elim (eq key e.0) as (λ b. cond b (Some e.1) (lookup (eq key) es) ≡ Some v → cond b ((e.0, v) ∷ es) (e ∷ insert_entry eq es key v) ≡ e ∷ es) [
        | true ↦ λ has. let same : v ≡ e.1 = cc in ap (λ w. (e.0, w) ∷ es) same
        | false ↦ λ has. ap (λ xs. e ∷ xs) (insert_same es v has)
      ]

  -- the last value stays
  pub insert_again : eq key key ≡ true → (es : List (K × V)) (v w : V) → insert_entry eq (insert_entry eq es key v) key w ≡ insert_entry eq es key w
  insert_again own [] v w = cond-true (eq key key) ((key, w) ∷ []) ((key, v) ∷ (key, w) ∷ []) own
  insert_again own (e ∷ es) v w =
      let then : V → List (K × V) = λ x. (e.0, x) ∷ es in
      let else : V → List (K × V) = λ x. e ∷ insert_entry eq es key x in
      ⊎_elim
      (λ (yes : eq key e.0 ≡ true).
      ap (λ xs. insert_entry eq xs key w) (cond-true (eq key e.0) (then v) (else v) yes)
      ∙ cond-true (eq key e.0) (then w) ((e.0, v) ∷ insert_entry eq es key w) yes ∙ sym (cond-true (eq key e.0) (then w) (else w) yes))
      (λ (no : eq key e.0 ≡ false).
      ap (λ xs. insert_entry eq xs key w) (cond-false (eq key e.0) (then v) (else v) no)
      ∙ cond-false (eq key e.0) ((e.0, w) ∷ insert_entry eq es key v) (e ∷ insert_entry eq (insert_entry eq es key v) key w) no
      ∙ ap (λ xs. e ∷ xs) (insert_again own es v w) ∙ sym (cond-false (eq key e.0) (then w) (else w) no))
      (cases_Bool (eq key e.0))

-- a test that is made twice
cond_twice : {X : Type 0} (b : Bool) (x y z : X) → cond b x z ≡ cond b x (cond b y z)
cond_twice b x y z = elim b as (λ b. cond b x z ≡ cond b x (cond b y z)) [ true ↦ refl | false ↦ refl ]

cons_cond : {X : Type 0} (b : Bool) (x : X) (ys zs : List X) → x ∷ cond b ys zs ≡ cond b (x ∷ ys) (x ∷ zs)
cons_cond b x ys zs = elim b as (λ b. x ∷ cond b ys zs ≡ cond b (x ∷ ys) (x ∷ zs)) [ true ↦ refl | false ↦ refl ]

module _ {K V : Type 0} {eq : K → K → Bool} (laws : IsEquivalence eq) where
  pub alike : (key q : K) → eq key q ≡ true → (xs : List (K × V)) → lookup (eq q) xs ≡ lookup (eq key) xs
  alike key q e xs = lookup_alike (eq q) (eq key) xs (λ x. sym (laws.congr key q x e))

  found_insert : (es : List (K × V)) (key : K) (v : V) (q : K) → lookup (eq q) (insert_entry eq es key v) ≡ cond (eq key q) (Some v) (lookup (eq q) es)
  found_insert [] key v q = ap (λ b. cond b (Some v) None) (laws.symm q key)
  found_insert (e ∷ es) key v q =
      let then = (e.0, v) ∷ es in
      let else = e ∷ insert_entry eq es key v in
      let rest = lookup (eq q) es in
      ⊎_elim
      (λ (yes : eq key e.0 ≡ true).
      ap (lookup (eq q)) (cond-true (eq key e.0) then else yes) ∙ cond_twice (eq q e.0) (Some v) (Some e.1) rest
      ∙ ap (λ b. cond b (Some v) (cond (eq q e.0) (Some e.1) rest)) (laws.symm q e.0 ∙ sym (laws.congr key e.0 q yes)))
      (λ (no : eq key e.0 ≡ false).
      ap (lookup (eq q)) (cond-false (eq key e.0) then else no) ∙ ap (λ o. cond (eq q e.0) (Some e.1) o) (found_insert es key v q)
      ∙ ⊎_elim
      (λ (hit : eq key q ≡ true).
      cond-false (eq q e.0) (Some e.1) (cond (eq key q) (Some v) rest) (sym (laws.congr key q e.0 hit) ∙ no)
      ∙ cond-true (eq key q) (Some v) rest hit ∙ sym (cond-true (eq key q) (Some v) (cond (eq q e.0) (Some e.1) rest) hit))
      (λ (miss : eq key q ≡ false).
      ap (λ o. cond (eq q e.0) (Some e.1) o) (cond-false (eq key q) (Some v) rest miss)
      ∙ sym (cond-false (eq key q) (Some v) (cond (eq q e.0) (Some e.1) rest) miss))
      (cases_Bool (eq key q)))
      (cases_Bool (eq key e.0))

  keys_insert : (es : List (K × V)) (key : K) (v : V) → keys_of (insert_entry eq es key v) ≡ cond (is_some (lookup (eq key) es)) (keys_of es) (keys_of es ++ key ∷ [])
  keys_insert [] key v = refl
  keys_insert (e ∷ es) key v =
      let then = (e.0, v) ∷ es in
      let else = e ∷ insert_entry eq es key v in
      let rest = lookup (eq key) es in
      let ks = keys_of es in
      let choice : Option V → List K = λ o. cond (is_some o) (e.0 ∷ ks) (e.0 ∷ (ks ++ key ∷ [])) in
      ⊎_elim
      (λ (yes : eq key e.0 ≡ true).
      ap keys_of (cond-true (eq key e.0) then else yes) ∙ sym (ap choice (cond-true (eq key e.0) (Some e.1) rest yes)))
      (λ (no : eq key e.0 ≡ false).
      ap keys_of (cond-false (eq key e.0) then else no) ∙ ap (λ xs. e.0 ∷ xs) (keys_insert es key v)
      ∙ cons_cond (is_some rest) e.0 ks (ks ++ key ∷ []) ∙ sym (ap choice (cond-false (eq key e.0) (Some e.1) rest no)))
      (cases_Bool (eq key e.0))

  pub Puts-insert : (es : List (K × V)) (key : K) (v : V) → Puts eq es (insert_entry eq es key v) key v
  Puts-insert es key v = record { found = found_insert es key v; keys = keys_insert es key v }

  lookup-head_from : (q : K) (e : K × V) (es : List (K × V)) → eq q e.0 ≡ false → lookup (eq q) es ≡ None → lookup (eq q) (e ∷ es) ≡ None
  lookup-head_from q e es apart none = cond-false (eq q e.0) _ _ apart ∙ none

  pub EachOnce-push : (xs : List (K × V)) (key : K) (value : V) → EachOnce eq xs → lookup (eq key) xs ≡ None → EachOnce eq (xs ++ (key, value) ∷ [])
  EachOnce-push [] key value once none = (refl, tt)
  EachOnce-push (e ∷ xs) key value once none =
      let parts = lookup-head_none (eq key) e xs none in (
        lookup-append_none (eq e.0) xs ((key, value) ∷ []) once.0 ∙ cond-false (eq e.0 key) _ _ (laws.symm e.0 key ∙ parts.0),
        EachOnce-push xs key value once.1 parts.1,
      )

  -- in a list of entries, each key of the back is missing before it
  pub EachOnce-before : (xs ys : List (K × V)) (e : K × V) → EachOnce eq (xs ++ e ∷ ys) → lookup (eq e.0) xs ≡ None
  EachOnce-before [] ys e once = refl
  EachOnce-before (x ∷ xs) ys e once = lookup-head_from e.0 x xs (laws.symm e.0 x.0 ∙ apart xs once.0) (EachOnce-before xs ys e once.1)
    where
      apart : (front : List (K × V)) → lookup (eq x.0) (front ++ e ∷ ys) ≡ None → eq x.0 e.0 ≡ false
      apart [] none = (lookup-head_none (eq x.0) e ys none).0
      apart (z ∷ zs) none = apart zs (lookup-head_none (eq x.0) z (zs ++ e ∷ ys) none).1

  -- a pair in a slot after the others
  pub EachOnce-slot_push : (slots : List (Option (K × V))) (key : K) (value : V) → EachOnce eq (pairs slots) → lookup (eq key) (pairs slots) ≡ None → EachOnce eq (pairs (slots ++ Some (key, value) ∷ []))
  EachOnce-slot_push slots key value once none = subst (EachOnce eq) (sym (pairs-append slots (Some (key, value) ∷ []))) (EachOnce-push (pairs slots) key value once none)

-- ---- clones

module _ {K V : Type 0} (C : K → K → Type 0) (D : V → V → Type 0) where
  -- the slot is empty as the other is, or holds clones of the other's key and value
  abbrev pub IsSlotClone : Option (K × V) → Option (K × V) → Type 0
  IsSlotClone None None = ⊤
  IsSlotClone None (Some f) = ⊥
  IsSlotClone (Some e) None = ⊥
  IsSlotClone (Some e) (Some f) = C e.0 f.0 × D e.1 f.1

  module _ (R : Option (K × V) → Option (K × V) → Type 0) (filled : (f : K × V) → R None (Some f) → ⊥) (emptied : (e : K × V) → R (Some e) None → ⊥) (both : (e f : K × V) → R (Some e) (Some f) → C e.0 f.0 × D e.1 f.1) where
    -- two slots are clones where the relation holds of them
    slot_cloned : (e f : Option (K × V)) → R e f → IsSlotClone e f
    slot_cloned None None h = tt
    slot_cloned None (Some f) h = filled f h
    slot_cloned (Some e) None h = emptied e h
    slot_cloned (Some e) (Some f) h = both e f h

    -- the slots are clones where the relation holds of each two
    pub slots_cloned : (slots copy : List (Option (K × V))) → AllZip R slots copy → AllZip IsSlotClone slots copy
    slots_cloned [] [] h = tt
    slots_cloned [] (f ∷ copy) h = absurd h
    slots_cloned (e ∷ slots) [] h = absurd h
    slots_cloned (e ∷ slots) (f ∷ copy) h = (slot_cloned e f h.0, slots_cloned slots copy h.1)

  pub pairs_cloned : (slots copy : List (Option (K × V))) → AllZip IsSlotClone slots copy → IsClone C D (pairs slots) (pairs copy)
  pairs_cloned [] [] h = tt
  pairs_cloned [] (f ∷ copy) h = absurd h
  pairs_cloned (e ∷ slots) [] h = absurd h
  pairs_cloned (None ∷ slots) (None ∷ copy) h = pairs_cloned slots copy h.1
  pairs_cloned (None ∷ slots) (Some f ∷ copy) h = absurd h.0
  pairs_cloned (Some e ∷ slots) (None ∷ copy) h = absurd h.0
  pairs_cloned (Some e ∷ slots) (Some f ∷ copy) h = (h.0, pairs_cloned slots copy h.1)

  pub AllHold_cloned : (slots copy : List (Option (K × V))) → AllZip IsSlotClone slots copy → AllHold slots → AllHold copy
  AllHold_cloned [] [] h hold = tt
  AllHold_cloned [] (f ∷ copy) h hold = absurd h
  AllHold_cloned (e ∷ slots) [] h hold = absurd h
  AllHold_cloned (None ∷ slots) (f ∷ copy) h hold = absurd hold
  AllHold_cloned (Some e ∷ slots) (None ∷ copy) h hold = absurd h.0
  AllHold_cloned (Some e ∷ slots) (Some f ∷ copy) h hold = AllHold_cloned slots copy h.1 hold

  -- a look-up whose test can't tell clones apart finds in the copy what it finds in the map, seen by a view of the values
  pub lookup_cloned : {W : Type 0} (f : V → W) → ((v w : V) → D v w → f w ≡ f v) → (test : K → Bool) → ((x y : K) → C x y → test y ≡ test x) → (es fs : List (K × V)) → IsClone C D es fs → option_map f (lookup test fs) ≡ option_map f (lookup test es)
  lookup_cloned f same test tests [] [] h = refl
  lookup_cloned f same test tests [] (e' ∷ fs) h = absurd h
  lookup_cloned f same test tests (e ∷ es) [] h = absurd h
  lookup_cloned f same test tests (e ∷ es) (e' ∷ fs) h =
      ap (λ b. option_map f (cond b (Some e'.1) (lookup test fs))) (tests e.0 e'.0 h.0.0)
      ∙ elim (test e.0) as (λ b. option_map f (cond b (Some e'.1) (lookup test fs)) ≡ option_map f (cond b (Some e.1) (lookup test es))) [
        | true ↦ ap Some (same e.1 e'.1 h.0.1)
        | false ↦ lookup_cloned f same test tests es fs h.1
      ]

  module _ {eq : K → K → Bool} (laws : IsEquivalence eq) (equal : (x y : K) → C x y → eq x y ≡ true) where
    -- what a map lacks, its copy lacks
    none_cloned : (q : K) (es fs : List (K × V)) → IsClone C D es fs → lookup (eq q) es ≡ None → lookup (eq q) fs ≡ None
    none_cloned q es fs h none =
        let tests : (x y : K) → C x y → eq q y ≡ eq q x = λ x y c. laws.symm q y ∙ sym (laws.congr x y q (equal x y c)) ∙ laws.symm x q in
        rw none at (lookup_clone C D (eq q) tests es fs h)

    pub EachOnce_cloned : (es fs : List (K × V)) → IsClone C D es fs → EachOnce eq es → EachOnce eq fs
    EachOnce_cloned [] [] h once = tt
    EachOnce_cloned [] (f ∷ fs) h once = absurd h
    EachOnce_cloned (e ∷ es) [] h once = absurd h
    EachOnce_cloned (e ∷ es) (f ∷ fs) h once =
        (alike laws e.0 f.0 (equal e.0 f.0 h.0.0) fs ∙ none_cloned e.0 es fs h.1 once.0, EachOnce_cloned es fs h.1 once.1)

-- ---- slots that are taken out

pub no_slots : {X : Type 0} (xs : List X) → (0 < length xs → ⊥) → xs ≡ []
no_slots [] none = refl
no_slots (x ∷ xs) none = absurd (none (omega arith))

-- a list that is written over by one of its own length is that one
pub refill_same : {X : Type 0} (xs ws : List X) → length ws ≡ length xs → refill (length xs) xs ws ≡ ws
refill_same xs ws same =
    ap (λ r. take (length xs) (ws ++ r)) (drop_all (length ws) xs (omega (arith, same))) ∙ ap (take (length xs)) (append-nil ws) ∙ take_all (length xs) ws (omega (arith, same))
