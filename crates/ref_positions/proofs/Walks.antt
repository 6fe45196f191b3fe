-- What a walk has noted after a token.
use Rattle.std.proofs.Common.{◌≡◌, ◌⊎◌, inl, inr, ℕ, ◌+◌, ◌<◌, ◌≤◌, ◌^◌, List, [], ◌∷◌, ◌++◌, Option, Some, None, length, get_or, set, zero, suc, true, false, Bool, cond, option_map, option_to_list, IsSome, is_some, ◌↔◌, reverse, refl, ap, sym, ◌∙◌, subst, arith, get_or-set_same, get_or-set_other, ltb, replicate, vec_len}
use Rattle.std.proofs.lemmas.Grind.{common_steps}
use Rattle.std.proofs.lemmas.Bool.{cases_lt}
use Rattle.std.proofs.lemmas.Bool.Decides.{nat_tests}
use Rattle.std.proofs.lemmas.List.{reverse-append, append-nil, get_or-replicate}
use Rattle.std.proofs.lemmas.List.Sums.{fold-append}
use Rattle.std.specs.List.{fold}
use Rattle.ref_positions.specs.Paths.{Step, member, item, Path, same_path, number_of}
use Rattle.ref_positions.specs.Parts.{Token, key, object, array, scalar, close, Next, value, name, nothing, next, after, ended, Part, a_key, a_value, begun, last_key, last_value, later_key, later_value}
use Rattle.ref_positions.specs.Places.{IsTree}
use Rattle.ref_positions.specs.Walks.{not_found, last_at, IsTable, IsStep, AreLevels, AreOpen, IsNamed, IsComing, IsFew, AreFew, IsWalk, with_value, with_key, ends}
use Rattle.ref_positions.specs.declared.walk.Found.{Found}
use Rattle.ref_positions.specs.declared.walk.Level.{Level}
use Rattle.ref_positions.specs.declared.walk.Walk.{Walk}
use Rattle.ref_positions.specs.declared.walk.Coming.{Coming}
use Rattle.ref_positions.specs.declared.walk.Coming.TheVariants.{Value, Key, Nothing}
use Rattle.ref_positions.proofs.Paths.{same_path_is, same_path_refl, number_is, in_list}

-- the path of a number
map_suc : (o : Option ℕ) (n : ℕ) → option_map suc o ≡ Some n → (m : ℕ) × (o ≡ Some m) × (n ≡ suc m)
map_suc None n h = cc
map_suc (Some m) n h = (m, refl, cc)

sound_at : (b : Bool) (q p : Path) (ps : List (Option Path)) (n : ℕ) → same_path q p ≡ b → cond b (Some 0) (option_map suc (number_of ps p)) ≡ Some n
    → ((m : ℕ) → number_of ps p ≡ Some m → get_or ps m None ≡ Some p) → get_or (Some q ∷ ps) n None ≡ Some p
sound_at true q p ps zero is h later = ap Some (same_path_is q p is)
sound_at true q p ps (suc n) is h later = cc
sound_at false q p ps n is h later =
    let m = map_suc (number_of ps p) n h in
    rw m.2 (later m.0 m.1)

pub sound : (ps : List (Option Path)) (p : Path) (n : ℕ) → number_of ps p ≡ Some n → get_or ps n None ≡ Some p
sound [] p n h = cc
sound (None ∷ ps) p n h =
    let m = map_suc (number_of ps p) n h in
    rw m.2 (sound ps p m.0 m.1)
sound (Some q ∷ ps) p n h = sound_at (same_path q p) q p ps n refl h (sound ps p)

pub numbered : (ps : List (Option Path)) → IsTree ps → (p : Path) (n : ℕ) → get_or ps n None ≡ Some p → number_of ps p ≡ Some n
numbered ps tree p n h = number_is ps p n h (λ j g. tree.distinct j n p g h)

-- the last parts, after one more
value_snoc : (p : Path) (ps : List Part) (x : Part) → last_value p (ps ++ x ∷ []) ≡ later_value p (last_value p ps) x
value_snoc p ps x = fold-append (later_value p) None ps (x ∷ [])

key_snoc : (p : Path) (ps : List Part) (x : Part) → last_key p (ps ++ x ∷ []) ≡ later_key p (last_key p ps) x
key_snoc p ps x = fold-append (later_key p) None ps (x ∷ [])

other_path : (p q : Path) → (p ≡ q → ⊥) → same_path p q ≡ false
other_path p q h = elim (same_path p q) as (λ b. same_path p q ≡ b → b ≡ false) [ true ↦ (λ e. absurd (h (same_path_is p q e))) | false ↦ (λ e. refl) ] refl

value_other : (ps : List Part) (p : Path) (at : ℕ × ℕ) (q : Option Path) → (q ≡ Some p → ⊥) → last_at (ps ++ a_value p at ∷ []) q ≡ last_at ps q
value_other ps p at None h = refl
value_other ps p at (Some q) h = rw (key_snoc q ps (a_value p at), value_snoc q ps (a_value p at), other_path p q (λ e. h (ap Some (sym e)))) refl

value_same : (ps : List Part) (p : Path) (at : ℕ × ℕ) → last_at (ps ++ a_value p at ∷ []) (Some p) ≡ record { key = last_key p ps; value = Some at }
value_same ps p at = rw (key_snoc p ps (a_value p at), value_snoc p ps (a_value p at), same_path_refl p) refl

key_other : (ps : List Part) (p : Path) (at : ℕ × ℕ) (q : Option Path) → (q ≡ Some p → ⊥) → last_at (ps ++ a_key p at ∷ []) q ≡ last_at ps q
key_other ps p at None h = refl
key_other ps p at (Some q) h = rw (key_snoc q ps (a_key p at), value_snoc q ps (a_key p at), other_path p q (λ e. h (ap Some (sym e)))) refl

key_same : (ps : List Part) (p : Path) (at : ℕ × ℕ) → last_at (ps ++ a_key p at ∷ []) (Some p) ≡ record { key = Some at; value = last_value p ps }
key_same ps p at = rw (key_snoc p ps (a_key p at), value_snoc p ps (a_key p at), same_path_refl p) refl

-- a table after one more value, or one more key
not_there : (paths : List (Option Path)) (p : Path) (n : ℕ) → IsTree paths → number_of paths p ≡ None → get_or paths n None ≡ Some p → ⊥
not_there paths p n tree none at = let is = numbered paths tree p n at in cc

elsewhere : (paths : List (Option Path)) (p : Path) (m n : ℕ) → IsTree paths → number_of paths p ≡ Some m → (n ≡ m → ⊥) → get_or paths n None ≡ Some p → ⊥
elsewhere paths p m n tree is ne at = ne (tree.distinct n m p at (sound paths p m is))

value_row : (paths : List (Option Path)) (found : List Found) (ps : List Part) (p : Path) (m n : ℕ) (at : ℕ × ℕ) → IsTree paths → IsTable paths found ps → number_of paths p ≡ Some m → m < length found
    → ((n ≡ m) ⊎ (n ≡ m → ⊥)) → get_or (set found m (record { key = (get_or found m not_found).key; value = Some at })) n not_found ≡ last_at (ps ++ a_value p at ∷ []) (get_or paths n None)
value_row paths found ps p m n at tree table is low (inl same) =
    let there : get_or paths m None ≡ Some p = sound paths p m is in
    let old : get_or found m not_found ≡ last_at ps (Some p) = table.1 m ∙ ap (last_at ps) there in
    rw (same, there, get_or-set_same found m (record { key = (get_or found m not_found).key; value = Some at }) not_found low, value_same ps p at, old) refl
value_row paths found ps p m n at tree table is low (inr other) =
    rw (get_or-set_other found m n (record { key = (get_or found m not_found).key; value = Some at }) not_found other, value_other ps p at (get_or paths n None) (elsewhere paths p m n tree is other)) (table.1 n)

key_row : (paths : List (Option Path)) (found : List Found) (ps : List Part) (p : Path) (m n : ℕ) (at : ℕ × ℕ) → IsTree paths → IsTable paths found ps → number_of paths p ≡ Some m → m < length found
    → ((n ≡ m) ⊎ (n ≡ m → ⊥)) → get_or (set found m (record { key = Some at; value = (get_or found m not_found).value })) n not_found ≡ last_at (ps ++ a_key p at ∷ []) (get_or paths n None)
key_row paths found ps p m n at tree table is low (inl same) =
    let there : get_or paths m None ≡ Some p = sound paths p m is in
    let old : get_or found m not_found ≡ last_at ps (Some p) = table.1 m ∙ ap (last_at ps) there in
    rw (same, there, get_or-set_same found m (record { key = Some at; value = (get_or found m not_found).value }) not_found low, key_same ps p at, old) refl
key_row paths found ps p m n at tree table is low (inr other) =
    rw (get_or-set_other found m n (record { key = Some at; value = (get_or found m not_found).value }) not_found other, key_other ps p at (get_or paths n None) (elsewhere paths p m n tree is other)) (table.1 n)

pub same_or_not : (n m : ℕ) → (n ≡ m) ⊎ (n ≡ m → ⊥)
same_or_not n m = elim (cases_lt n m) [
  | inl lower ↦ inr (λ e. omega arith)
  | inr upper ↦ elim (cases_lt m n) [
    | inl more ↦ inr (λ e. omega arith)
    | inr same ↦ inl (omega arith)
  ]
]

pub set_long : (found : List Found) (m : ℕ) (x : Found) → length (set found m x) ≡ length found
set_long found m x = grind (arith, common_steps)

pub low : (m n : ℕ) → m < n → ltb m n ≡ true
low m n h = grind (arith, nat_tests)

pub value_table : (paths : List (Option Path)) (found : List Found) (ps : List Part) (p : Path) (o : Option ℕ) (at : ℕ × ℕ) → IsTree paths → IsTable paths found ps → o ≡ number_of paths p
    → IsTable paths (with_value found o at) (ps ++ a_value p at ∷ [])
value_table paths found ps p None at tree table is = (table.0, λ n. table.1 n ∙ sym (value_other ps p at (get_or paths n None) (not_there paths p n tree (sym is))))
value_table paths found ps p (Some m) at tree table is =
    let small : m < length found = rw table.0 (in_list paths m p (sound paths p m (sym is))) in
    rw (low m (length found) small) (set_long found m (record { key = (get_or found m not_found).key; value = Some at }) ∙ table.0, λ n. value_row paths found ps p m n at tree table (sym is) small (same_or_not n m))

pub key_table : (paths : List (Option Path)) (found : List Found) (ps : List Part) (p : Path) (o : Option ℕ) (at : ℕ × ℕ) → IsTree paths → IsTable paths found ps → o ≡ number_of paths p
    → IsTable paths (with_key found o at) (ps ++ a_key p at ∷ [])
key_table paths found ps p None at tree table is = (table.0, λ n. table.1 n ∙ sym (key_other ps p at (get_or paths n None) (not_there paths p n tree (sym is))))
key_table paths found ps p (Some m) at tree table is =
    let small : m < length found = rw table.0 (in_list paths m p (sound paths p m (sym is))) in
    rw (low m (length found) small) (set_long found m (record { key = Some at; value = (get_or found m not_found).value }) ∙ table.0, λ n. key_row paths found ps p m n at tree table (sym is) small (same_or_not n m))

-- levels
pub cons_nil : (s : Step) (p : Path) → s ∷ p ≡ [] → ⊥
cons_nil s p h = cc

pub after_none : (paths : List (Option Path)) (outer : List Level) (p : Path) → AreOpen paths None outer p → IsComing paths None outer Nothing (after p)
after_none paths outer [] is = (refl, is.0)
after_none paths outer (s ∷ p) is = absurd (cons_nil s p is.1)

pub after_member : (paths : List (Option Path)) (l : Level) (outer : List Level) (p : Path) → l.index ≡ None → AreOpen paths (Some l) outer p → IsComing paths (Some l) outer Key (after p)
after_member paths l outer [] is lie = absurd lie
after_member paths l outer (member k ∷ p) is lie = (lie.0, rw is tt, lie.2)
after_member paths l outer (item i ∷ p) is lie = absurd (rw is at lie.1)

pub after_item : (paths : List (Option Path)) (l : Level) (outer : List Level) (p : Path) (i j n : ℕ) → l.index ≡ Some i → IsFew n p → (i ≤ n → j ≡ i + 1) → AreOpen paths (Some l) outer p
    → IsComing paths (Some (record { place = l.place; index = Some j })) outer (Value None) (after p)
after_item paths l outer [] i j n is few next lie = absurd lie
after_item paths l outer (member k ∷ p) i j n is few next lie = absurd (rw is at lie.1)
after_item paths l outer (item m ∷ p) i j n is few next lie =
    let same : i ≡ m = rw is at lie.1 in
    ((lie.0, next (rw same few.0) ∙ ap (λ x. x + 1) same, lie.2), tt)

-- entering and leaving
pub entered : (paths : List (Option Path)) (place index : Option ℕ) (level : Option Level) (outer : List Level) (p : Path) (s : Step) → place ≡ number_of paths p → IsStep index s
    → (level ≡ None) → AreOpen paths None outer p → AreOpen paths (Some (record { place = place; index = index })) outer (s ∷ p)
entered paths place index level outer p s is step none lie = rw (lie.0, lie.1) (rw lie.1 at is, step, tt)

pub entered_in : (paths : List (Option Path)) (place index : Option ℕ) (l : Level) (outer : List Level) (p : Path) (s : Step) → place ≡ number_of paths p → IsStep index s
    → AreOpen paths (Some l) outer p → AreOpen paths (Some (record { place = place; index = index })) (outer ++ l ∷ []) (s ∷ p)
entered_in paths place index l outer p s is step lie = rw (reverse-append outer (l ∷ [])) (is, step, lie)

whole_path : (paths : List (Option Path)) (p : Path) → AreLevels paths [] p → p ≡ []
whole_path paths [] h = refl
whole_path paths (s ∷ p) h = absurd h

nil_is : (xs : List Level) → [] ≡ xs ++ [] → xs ≡ []
nil_is [] h = refl
nil_is (x ∷ xs) h = cc

pub false_true : false ≡ true → ⊥
false_true h = cc

none_nil : (xs : List Level) → ((0 < length xs) → ⊥) → xs ≡ []
none_nil [] h = refl
none_nil (x ∷ xs) h = absurd (h (omega arith))

popped : (paths : List (Option Path)) (old new : List Level) (r : Option Level) (p : Path) → old ≡ new ++ option_to_list r → (IsSome r ↔ (0 < length old)) → AreLevels paths (reverse old) p → AreOpen paths r new p
popped paths old new None p is some lie =
    let none : old ≡ [] = none_nil old (λ h. false_true (some.1 h)) in
    let left : new ≡ [] = nil_is new (sym none ∙ is) in
    let at : AreLevels paths (reverse {A = Level} []) p = subst (λ (xs : List Level). AreLevels paths (reverse xs) p) none lie in
    (left, whole_path paths p at)
popped paths old new (Some l) p is some lie =
    let turned : reverse old ≡ l ∷ reverse new = ap reverse is ∙ reverse-append new (l ∷ []) in
    subst (λ (xs : List Level). AreLevels paths xs p) turned lie

pub few_more : (n : ℕ) (p : Path) → IsFew n p → IsFew (n + 1) p
few_more n [] h = tt
few_more n (member k ∷ p) h = few_more n p h
few_more n (item i ∷ p) h = (omega (arith, h.0), few_more n p h.1)

few_after : (n : ℕ) (p : Path) → IsFew n p → AreFew (n + 1) (after p)
few_after n [] h = tt
few_after n (member k ∷ p) h = few_more n p h
few_after n (item i ∷ p) h = (omega (arith, h.0), few_more n p h.1)

few_next : (n : ℕ) (before : Next) → AreFew n before → AreFew (n + 1) before
few_next n (value p) h = few_more n p h
few_next n (name p) h = few_more n p h
few_next n nothing h = tt

-- what a walk is after a token that is passed over
pub stays : (paths : List (Option Path)) (w : Walk) (n : ℕ) (before : Next) (ps : List Part) → IsWalk paths w n before ps → IsWalk paths w (n + 1) before (ps ++ [])
stays paths w n before ps is = record {
  tree = is.tree;
  table = rw (append-nil ps) is.table;
  coming = is.coming;
  few = few_next n before is.few;
}

no_value : (paths : List (Option Path)) (level : Option Level) (outer : List Level) (k : Coming) (p : Path) → ((c : Option ℕ) → k ≡ Value c → ⊥) → IsComing paths level outer k (value p) → ⊥
no_value paths level outer (Value c) p ne h = ne c refl
no_value paths level outer Key p ne h = h
no_value paths level outer Nothing p ne h = h

no_key : (paths : List (Option Path)) (level : Option Level) (outer : List Level) (k : Coming) (p : Path) → (k ≡ Key → ⊥) → IsComing paths level outer k (name p) → ⊥
no_key paths level outer (Value c) p ne h = h
no_key paths level outer Key p ne h = ne refl
no_key paths level outer Nothing p ne h = h

pub scalar_skips : (paths : List (Option Path)) (w : Walk) (n start : ℕ) → ((c : Option ℕ) → w.next ≡ Value c → ⊥) → (before : Next) (ps : List Part) → IsWalk paths w n before ps
    → IsWalk paths w (n + 1) (next before (scalar start)) (ps ++ begun before n (scalar start))
scalar_skips paths w n start ne (value p) ps is = absurd (no_value paths w.level w.outer.items w.next p ne is.coming)
scalar_skips paths w n start ne (name p) ps is = stays paths w n (name p) ps is
scalar_skips paths w n start ne nothing ps is = stays paths w n nothing ps is

pub object_skips : (paths : List (Option Path)) (w : Walk) (n start : ℕ) → ((c : Option ℕ) → w.next ≡ Value c → ⊥) → (before : Next) (ps : List Part) → IsWalk paths w n before ps
    → IsWalk paths w (n + 1) (next before (object start)) (ps ++ begun before n (object start))
object_skips paths w n start ne (value p) ps is = absurd (no_value paths w.level w.outer.items w.next p ne is.coming)
object_skips paths w n start ne (name p) ps is = stays paths w n (name p) ps is
object_skips paths w n start ne nothing ps is = stays paths w n nothing ps is

pub array_skips : (paths : List (Option Path)) (w : Walk) (n start : ℕ) → ((c : Option ℕ) → w.next ≡ Value c → ⊥) → (before : Next) (ps : List Part) → IsWalk paths w n before ps
    → IsWalk paths w (n + 1) (next before (array start)) (ps ++ begun before n (array start))
array_skips paths w n start ne (value p) ps is = absurd (no_value paths w.level w.outer.items w.next p ne is.coming)
array_skips paths w n start ne (name p) ps is = stays paths w n (name p) ps is
array_skips paths w n start ne nothing ps is = stays paths w n nothing ps is

pub key_skips : (paths : List (Option Path)) (w : Walk) (n start : ℕ) (k : List ℕ) → (w.next ≡ Key → ⊥) → (before : Next) (ps : List Part) → IsWalk paths w n before ps
    → IsWalk paths w (n + 1) (next before (key k start)) (ps ++ begun before n (key k start))
key_skips paths w n start k ne (value p) ps is = stays paths w n (value p) ps is
key_skips paths w n start k ne (name p) ps is = absurd (no_key paths w.level w.outer.items w.next p ne is.coming)
key_skips paths w n start k ne nothing ps is = stays paths w n nothing ps is

-- what it is after a token that isn't
pub scalar_passes : (paths : List (Option Path)) (old new : Walk) (n start : ℕ) (c r : Option ℕ) → old.next ≡ Value c
    → ((p : Path) → IsTree paths → AreOpen paths old.level old.outer.items p → IsNamed paths c p → r ≡ number_of paths p)
    → new.found.items ≡ with_value old.found.items r (n, start)
    → ((p : Path) → IsFew n p → AreOpen paths old.level old.outer.items p → IsComing paths new.level new.outer.items new.next (after p))
    → (before : Next) (ps : List Part) → IsWalk paths old n before ps → IsWalk paths new (n + 1) (next before (scalar start)) (ps ++ begun before n (scalar start))
scalar_passes paths old new n start c r is number found coming (value p) ps w =
    let here : IsComing paths old.level old.outer.items (Value c) (value p) = subst (λ (k : Coming). IsComing paths old.level old.outer.items k (value p)) is w.coming in
    record {
      tree = w.tree;
      table = subst (λ (xs : List Found). IsTable paths xs (ps ++ a_value p (n, start) ∷ [])) (sym found) (value_table paths old.found.items ps p r (n, start) w.tree w.table (number p w.tree here.0 here.1));
      coming = coming p w.few here.0;
      few = few_after n p w.few;
    }
scalar_passes paths old new n start c r is number found coming (name p) ps w = absurd (subst (λ (k : Coming). IsComing paths old.level old.outer.items k (name p)) is w.coming)
scalar_passes paths old new n start c r is number found coming nothing ps w = absurd (subst (λ (k : Coming). IsComing paths old.level old.outer.items k nothing) is w.coming)

pub object_passes : (paths : List (Option Path)) (old new : Walk) (n start : ℕ) (c r : Option ℕ) → old.next ≡ Value c
    → ((p : Path) → IsTree paths → AreOpen paths old.level old.outer.items p → IsNamed paths c p → r ≡ number_of paths p)
    → new.found.items ≡ with_value old.found.items r (n, start)
    → new.next ≡ Key
    → ((p : Path) (s : Step) → r ≡ number_of paths p → IsStep None s → AreOpen paths old.level old.outer.items p → AreOpen paths new.level new.outer.items (s ∷ p))
    → (before : Next) (ps : List Part) → IsWalk paths old n before ps → IsWalk paths new (n + 1) (next before (object start)) (ps ++ begun before n (object start))
object_passes paths old new n start c r is number found key_comes enters (value p) ps w =
    let here : IsComing paths old.level old.outer.items (Value c) (value p) = subst (λ (k : Coming). IsComing paths old.level old.outer.items k (value p)) is w.coming in
    let of = number p w.tree here.0 here.1 in
    record {
      tree = w.tree;
      table = subst (λ (xs : List Found). IsTable paths xs (ps ++ a_value p (n, start) ∷ [])) (sym found) (value_table paths old.found.items ps p r (n, start) w.tree w.table of);
      coming = subst (λ (k : Coming). IsComing paths new.level new.outer.items k (name p)) (sym key_comes) (enters p (member []) of tt here.0);
      few = few_more n p w.few;
    }
object_passes paths old new n start c r is number found key_comes enters (name p) ps w = absurd (subst (λ (k : Coming). IsComing paths old.level old.outer.items k (name p)) is w.coming)
object_passes paths old new n start c r is number found key_comes enters nothing ps w = absurd (subst (λ (k : Coming). IsComing paths old.level old.outer.items k nothing) is w.coming)

pub array_passes : (paths : List (Option Path)) (old new : Walk) (n start : ℕ) (c r : Option ℕ) → old.next ≡ Value c
    → ((p : Path) → IsTree paths → AreOpen paths old.level old.outer.items p → IsNamed paths c p → r ≡ number_of paths p)
    → new.found.items ≡ with_value old.found.items r (n, start)
    → new.next ≡ Value None
    → ((p : Path) (s : Step) → r ≡ number_of paths p → IsStep (Some 0) s → AreOpen paths old.level old.outer.items p → AreOpen paths new.level new.outer.items (s ∷ p))
    → (before : Next) (ps : List Part) → IsWalk paths old n before ps → IsWalk paths new (n + 1) (next before (array start)) (ps ++ begun before n (array start))
array_passes paths old new n start c r is number found comes enters (value p) ps w =
    let here : IsComing paths old.level old.outer.items (Value c) (value p) = subst (λ (k : Coming). IsComing paths old.level old.outer.items k (value p)) is w.coming in
    let of = number p w.tree here.0 here.1 in
    record {
      tree = w.tree;
      table = subst (λ (xs : List Found). IsTable paths xs (ps ++ a_value p (n, start) ∷ [])) (sym found) (value_table paths old.found.items ps p r (n, start) w.tree w.table of);
      coming = subst (λ (k : Coming). IsComing paths new.level new.outer.items k (value (item 0 ∷ p))) (sym comes) (enters p (item 0) of refl here.0, tt);
      few = (omega arith, few_more n p w.few);
    }
array_passes paths old new n start c r is number found comes enters (name p) ps w = absurd (subst (λ (k : Coming). IsComing paths old.level old.outer.items k (name p)) is w.coming)
array_passes paths old new n start c r is number found comes enters nothing ps w = absurd (subst (λ (k : Coming). IsComing paths old.level old.outer.items k nothing) is w.coming)

-- ends
tail_of : (paths : List (Option Path)) (level : Option Level) (outer : List Level) (s : Step) (p : Path) → AreOpen paths level outer (s ∷ p) → AreLevels paths (reverse outer) p
tail_of paths None outer s p lie = absurd (cons_nil s p lie.1)
tail_of paths (Some l) outer s p lie = lie.2

step_member : (o : Option ℕ) (k : List ℕ) → is_some o ≡ true → IsStep o (member k) → ⊥
step_member None k is h = cc
step_member (Some i) k is h = h

step_item : (o : Option ℕ) (i : ℕ) → is_some o ≡ false → IsStep o (item i) → ⊥
step_item None i is h = h
step_item (Some j) i is h = cc

end_nil : (paths : List (Option Path)) (level : Option Level) (outer : List Level) (k : Coming) → ends level k ≡ true → IsComing paths level outer k (value []) → ⊥
end_nil paths None outer (Value c) is h = cc
end_nil paths (Some l) outer (Value c) is h = h.0
end_nil paths level outer Key is h = h
end_nil paths level outer Nothing is h = h

end_member : (paths : List (Option Path)) (level : Option Level) (outer : List Level) (k : Coming) (m : List ℕ) (p : Path) → ends level k ≡ true → IsComing paths level outer k (value (member m ∷ p)) → ⊥
end_member paths None outer (Value c) m p is h = cc
end_member paths (Some l) outer (Value c) m p is h = step_member l.index m is h.0.1
end_member paths level outer Key m p is h = h
end_member paths level outer Nothing m p is h = h

end_item : (paths : List (Option Path)) (level : Option Level) (outer : List Level) (k : Coming) (i : ℕ) (p : Path) → ends level k ≡ false → IsComing paths level outer k (value (item i ∷ p)) → ⊥
end_item paths None outer (Value c) i p is h = cons_nil (item i) p h.0.1
end_item paths (Some l) outer (Value c) i p is h = step_item l.index i is h.0.1
end_item paths level outer Key i p is h = h
end_item paths level outer Nothing i p is h = h

end_name : (paths : List (Option Path)) (level : Option Level) (outer : List Level) (k : Coming) (p : Path) → ends level k ≡ false → IsComing paths level outer k (name p) → ⊥
end_name paths level outer (Value c) p is h = h
end_name paths level outer Key p is h = cc
end_name paths level outer Nothing p is h = h

end_nothing : (paths : List (Option Path)) (level : Option Level) (outer : List Level) (k : Coming) → ends level k ≡ true → IsComing paths level outer k nothing → ⊥
end_nothing paths level outer (Value c) is h = h
end_nothing paths level outer Key is h = h
end_nothing paths level outer Nothing is h = cc

value_lies : (paths : List (Option Path)) (level : Option Level) (outer : List Level) (k : Coming) (p : Path) → IsComing paths level outer k (value p) → AreOpen paths level outer p
value_lies paths level outer (Value c) p h = h.0
value_lies paths level outer Key p h = absurd h
value_lies paths level outer Nothing p h = absurd h

name_lies : (paths : List (Option Path)) (level : Option Level) (outer : List Level) (k : Coming) (p : Path) → IsComing paths level outer k (name p) → AreOpen paths level outer (member [] ∷ p)
name_lies paths level outer (Value c) p h = absurd h
name_lies paths level outer Key p h = h
name_lies paths level outer Nothing p h = absurd h

closed : (paths : List (Option Path)) (old new : Walk) (left : List Level) (r : Option Level) (n : ℕ) (before : Next) (ps : List Part) (s : Step) (p : Path)
    → old.outer.items ≡ left ++ option_to_list r → (IsSome r ↔ (0 < vec_len old.outer)) → new.found.items ≡ old.found.items
    → ((p : Path) → IsFew n p → AreOpen paths r left p → IsComing paths new.level new.outer.items new.next (after p))
    → IsWalk paths old n before ps → AreOpen paths old.level old.outer.items (s ∷ p) → IsFew n p → IsWalk paths new (n + 1) (after p) (ps ++ [])
closed paths old new left r n before ps s p is some found coming w lie few = record {
  tree = w.tree;
  table = rw (append-nil ps) (subst (λ (xs : List Found). IsTable paths xs ps) (sym found) w.table);
  coming = coming p few (popped paths old.outer.items left r p is (λ h. subst (λ (k : ℕ). 0 < k) old.outer.ok.0 (some.0 h), λ h. some.1 (subst (λ (k : ℕ). 0 < k) (sym old.outer.ok.0) h)) (tail_of paths old.level old.outer.items s p lie));
  few = few_after n p few;
}

pub end_passes : (paths : List (Option Path)) (old new : Walk) (left : List Level) (r : Option Level) (n : ℕ) → ends old.level old.next ≡ true
    → old.outer.items ≡ left ++ option_to_list r → (IsSome r ↔ (0 < vec_len old.outer)) → new.found.items ≡ old.found.items
    → ((p : Path) → IsFew n p → AreOpen paths r left p → IsComing paths new.level new.outer.items new.next (after p))
    → (before : Next) (ps : List Part) → IsWalk paths old n before ps → IsWalk paths new (n + 1) (next before close) (ps ++ begun before n close)
end_passes paths old new left r n does is some found coming (value []) ps w = absurd (end_nil paths old.level old.outer.items old.next does w.coming)
end_passes paths old new left r n does is some found coming (value (member k ∷ p)) ps w = absurd (end_member paths old.level old.outer.items old.next k p does w.coming)
end_passes paths old new left r n does is some found coming (value (item i ∷ p)) ps w =
    closed paths old new left r n (value (item i ∷ p)) ps (item i) p is some found coming w (value_lies paths old.level old.outer.items old.next (item i ∷ p) w.coming) w.few.1
end_passes paths old new left r n does is some found coming (name p) ps w =
    closed paths old new left r n (name p) ps (member []) p is some found coming w (name_lies paths old.level old.outer.items old.next p w.coming) w.few
end_passes paths old new left r n does is some found coming nothing ps w = absurd (end_nothing paths old.level old.outer.items old.next does w.coming)

pub end_skips : (paths : List (Option Path)) (w : Walk) (n : ℕ) → ends w.level w.next ≡ false → (before : Next) (ps : List Part) → IsWalk paths w n before ps
    → IsWalk paths w (n + 1) (next before close) (ps ++ begun before n close)
end_skips paths w n not (value []) ps is = stays paths w n (value []) ps is
end_skips paths w n not (value (member k ∷ p)) ps is = stays paths w n (value (member k ∷ p)) ps is
end_skips paths w n not (value (item i ∷ p)) ps is = absurd (end_item paths w.level w.outer.items w.next i p not is.coming)
end_skips paths w n not (name p) ps is = absurd (end_name paths w.level w.outer.items w.next p not is.coming)
end_skips paths w n not nothing ps is = stays paths w n nothing ps is

-- keys
same_kind : (o : Option ℕ) (a b : List ℕ) → IsStep o (member a) → IsStep o (member b)
same_kind None a b h = tt
same_kind (Some i) a b h = h

pub other_member : (paths : List (Option Path)) (level : Option Level) (outer : List Level) (a b : List ℕ) (p : Path) → AreOpen paths level outer (member a ∷ p) → AreOpen paths level outer (member b ∷ p)
other_member paths None outer a b p lie = absurd (cons_nil (member a) p lie.1)
other_member paths (Some l) outer a b p lie = (lie.0, same_kind l.index a b lie.1, lie.2)

pub key_passes : (paths : List (Option Path)) (old new : Walk) (n start : ℕ) (k : List ℕ) (r : Option ℕ) → old.next ≡ Key → new.next ≡ Value r
    → new.level ≡ old.level → new.outer ≡ old.outer
    → new.found.items ≡ with_key old.found.items r (n, start)
    → (before : Next) (ps : List Part) → ((p : Path) → before ≡ name p → IsTree paths → AreOpen paths old.level old.outer.items (member [] ∷ p) → r ≡ number_of paths (member k ∷ p))
    → IsWalk paths old n before ps → IsWalk paths new (n + 1) (next before (key k start)) (ps ++ begun before n (key k start))
key_passes paths old new n start k r is then same_level same_outer found (name p) ps number w =
    let here : AreOpen paths old.level old.outer.items (member [] ∷ p) = subst (λ (x : Coming). IsComing paths old.level old.outer.items x (name p)) is w.coming in
    let of = number p refl w.tree here in
    record {
      tree = w.tree;
      table = subst (λ (xs : List Found). IsTable paths xs (ps ++ a_key (member k ∷ p) (n, start) ∷ [])) (sym found) (key_table paths old.found.items ps (member k ∷ p) r (n, start) w.tree w.table of);
      coming = rw (then, same_level, same_outer) (other_member paths old.level old.outer.items [] k p here, of);
      few = few_more n p w.few;
    }
key_passes paths old new n start k r is then same_level same_outer found (value p) ps number w = absurd (subst (λ (x : Coming). IsComing paths old.level old.outer.items x (value p)) is w.coming)
key_passes paths old new n start k r is then same_level same_outer found nothing ps number w = absurd (subst (λ (x : Coming). IsComing paths old.level old.outer.items x nothing) is w.coming)

-- a walk that begins
none_of : (paths : List (Option Path)) (n : ℕ) → last_at [] (get_or paths n None) ≡ not_found
none_of paths n = elim (get_or paths n None) as (λ q. last_at [] q ≡ not_found) [ None ↦ refl | Some p ↦ refl ]

replicated : (k n : ℕ) → get_or (replicate k not_found) n not_found ≡ not_found
replicated k n = elim (cases_lt n k) [
  | inl lower ↦ get_or-replicate k n not_found not_found lower
  | inr upper ↦ grind (arith, common_steps)
]

pub begins : (paths : List (Option Path)) (w : Walk) → w.found.items ≡ replicate (length paths) not_found → w.outer.items ≡ [] → w.level ≡ None → w.next ≡ Value (Some 0) → IsTree paths
    → IsWalk paths w 0 (value []) []
begins paths w found outer level is tree = record {
  tree = tree;
  table = rw found (grind (arith, common_steps), λ n. replicated (length paths) n ∙ sym (none_of paths n));
  coming = rw (level, outer, is) ((refl, refl), sym tree.whole);
  few = tt;
}
