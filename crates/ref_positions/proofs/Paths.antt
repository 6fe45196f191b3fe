-- What numbers stand for, as places are added.
use Rattle.std.proofs.Common.{◌≡◌, inl, inr, ℕ, ◌+◌, ◌<◌, List, [], ◌∷◌, ◌++◌, Option, Some, None, length, get_or, zero, suc, true, false, Bool, cond, IfSome, IfNone, option_map, refl, ap, sym, ◌∙◌, arith}
use Rattle.std.proofs.lemmas.Grind.{common_steps}
use Rattle.ref_positions.specs.Paths.{Step as PathStep, member, item, below, Path, same_step, same_path, number_of}
use Rattle.ref_positions.specs.Places.{paths_from, next_path, step_of, indexed, IsEntry, IsNew, IsIndexed}
use Rattle.ref_positions.specs.declared.places.Index.{Index}
use Rattle.std.proofs.lemmas.Bool.{cases_lt}
use Rattle.std.proofs.lemmas.Slice.Eq.{bytes_eq-Decides}
use Rattle.ref_positions.specs.declared.places.Entry.{Entry}

pub snoc : (ps : List (Option Path)) (es : List Entry) (e : Entry) → paths_from ps (es ++ e ∷ []) ≡ paths_from ps es ++ next_path (paths_from ps es) e ∷ []
snoc ps [] e = refl
snoc ps (x ∷ es) e = snoc (ps ++ next_path ps x ∷ []) es e

pub count : (ps : List (Option Path)) (es : List Entry) → length (paths_from ps es) ≡ length ps + length es
count ps [] = omega arith
count ps (x ∷ es) = grind (arith, common_steps, count (ps ++ next_path ps x ∷ []) es)

pub keeps : (ps : List (Option Path)) (es : List Entry) (i : ℕ) → i < length ps → get_or (paths_from ps es) i None ≡ get_or ps i None
keeps ps [] i h = refl
keeps ps (x ∷ es) i h = grind (arith, common_steps, keeps (ps ++ next_path ps x ∷ []) es i)

none_below : (n : ℕ) → n < length {A = Option Path} [] → ⊥
none_below n h = omega arith

-- the path of a number that is below another one before it
next_is : (ps : List (Option Path)) (e : Entry) → e.above < length ps → next_path ps e ≡ below ps e.above (step_of e.step)
next_is [] e h = absurd (none_below e.above h)
next_is (p ∷ ps) e h = refl

none_in : (n : ℕ) → n < length {A = Entry} [] → ⊥
none_in n h = omega arith

pub stands : (ps : List (Option Path)) (es : List Entry) (j n : ℕ) (d : Entry) → j < length es → n ≡ length ps + j → (get_or es j d).above < n
    → get_or (paths_from ps es) n None ≡ below (paths_from ps es) (get_or es j d).above (step_of (get_or es j d).step)
stands ps [] j n d h is a = absurd (none_in j h)
stands ps (e ∷ es) zero n d h is a =
    let more = ps ++ next_path ps e ∷ [] in
    let there : get_or (paths_from more es) n None ≡ get_or more n None = keeps more es n (grind (arith, common_steps)) in
    let value : get_or more n None ≡ next_path ps e = grind (arith, common_steps) in
    let one : get_or (paths_from more es) e.above None ≡ get_or more e.above None = keeps more es e.above (grind (arith, common_steps)) in
    let two : get_or more e.above None ≡ get_or ps e.above None = grind (arith, common_steps) in
    there ∙ value ∙ next_is ps e (omega arith) ∙ rw (one, two) refl
stands ps (e ∷ es) (suc j) n d h is a = stands (ps ++ next_path ps e ∷ []) es j n d (omega arith) (grind (arith, common_steps)) a

after_some : (ps : List (Option Path)) (e : Entry) → 0 < length ps → next_path ps e ≡ below ps e.above (step_of e.step)
after_some [] e h = absurd (none_below 0 h)
after_some (p ∷ ps) e h = refl

-- the number that is added
pub added : (es : List Entry) (e : Entry) → 0 < length es → paths_from [] (es ++ e ∷ []) ≡ paths_from [] es ++ below (paths_from [] es) e.above (step_of e.step) ∷ []
added es e h = snoc [] es e ∙ ap (λ x. paths_from [] es ++ x ∷ []) (after_some (paths_from [] es) e (grind (arith, count [] es)))

pub is_below : (es : List Entry) (n : ℕ) (d : Entry) → n < length es → (get_or es n d).above < n
    → get_or (paths_from [] es) n None ≡ below (paths_from [] es) (get_or es n d).above (step_of (get_or es n d).step)
is_below es n d h a = stands [] es n n d h (omega arith) a

-- steps and paths that are the same
same_step_refl : (s : PathStep) → same_step s s ≡ true
same_step_refl (member key) = grind (arith, bytes_eq-Decides key key)
same_step_refl (item i) = grind (arith, common_steps)

pub same_path_refl : (p : Path) → same_path p p ≡ true
same_path_refl [] = refl
same_path_refl (s ∷ p) = rw (same_step_refl s) (same_path_refl p)

same_step_is : (s t : PathStep) → same_step s t ≡ true → s ≡ t
same_step_is (member key) (member other) h = ap member (grind (arith, bytes_eq-Decides key other))
same_step_is (item i) (item j) h = ap item (grind (arith, common_steps))
same_step_is (member key) (item j) h = cc
same_step_is (item i) (member other) h = cc

pub same_path_is : (p q : Path) → same_path p q ≡ true → p ≡ q
same_path_is [] [] h = refl
same_path_is [] (t ∷ q) h = cc
same_path_is (s ∷ p) [] h = cc
same_path_is (s ∷ p) (t ∷ q) h =
    let one : same_step s t ≡ true = grind (arith, common_steps) in
    let two : same_path p q ≡ true = grind (arith, common_steps) in
    let head = same_step_is s t one in
    let tail = same_path_is p q two in
    cc

suc_of : (o : Option ℕ) (n : ℕ) → o ≡ Some n → option_map suc o ≡ Some (suc n)
suc_of o n h = rw h refl

none_suc : (o : Option ℕ) → o ≡ None → option_map suc o ≡ None
none_suc o h = rw h refl

other : (b : Bool) (o : Option ℕ) (n : ℕ) → (b ≡ true → ⊥) → o ≡ Some (suc n) → cond b (Some 0) o ≡ Some (suc n)
other true o n h is = absurd (h refl)
other false o n h is = is

no_other : (b : Bool) (o : Option ℕ) → (b ≡ true → ⊥) → o ≡ None → cond b (Some 0) o ≡ None
no_other true o h is = absurd (h refl)
no_other false o h is = is

-- which number stands for a path
pub number_is : (ps : List (Option Path)) (q : Path) (n : ℕ) → get_or ps n None ≡ Some q → ((j : ℕ) → get_or ps j None ≡ Some q → j ≡ n) → number_of ps q ≡ Some n
number_is [] q n h only = cc
number_is (Some p ∷ ps) q zero h only =
    let same : p ≡ q = cc in
    rw same (rw (same_path_refl q) refl)
number_is (None ∷ ps) q zero h only = cc
number_is (None ∷ ps) q (suc n) h only = suc_of _ n (number_is ps q n h (λ j g. grind (arith, only (suc j) g)))
number_is (Some p ∷ ps) q (suc n) h only =
    let later = suc_of _ n (number_is ps q n h (λ j g. grind (arith, only (suc j) g))) in
    other (same_path p q) _ n (λ g. grind (arith, only 0 (ap Some (same_path_is p q g)))) later

pub number_none : (ps : List (Option Path)) (q : Path) → ((n : ℕ) → get_or ps n None ≡ Some q → ⊥) → number_of ps q ≡ None
number_none [] q h = refl
number_none (None ∷ ps) q h = none_suc _ (number_none ps q (λ n g. h (suc n) g))
number_none (Some p ∷ ps) q h = no_other (same_path p q) _ (λ g. h 0 (ap Some (same_path_is p q g))) (none_suc _ (number_none ps q (λ n g. h (suc n) g)))

-- what a number stands for, by where it is
some_below : (o : Option Path) (t s : PathStep) (p : Path) → option_map (λ x. t ∷ x) o ≡ Some (s ∷ p) → (o ≡ Some p) × (t ≡ s)
some_below None t s p h = cc
some_below (Some x) t s p h = (cc, cc)

pub in_list : (ps : List (Option Path)) (i : ℕ) (p : Path) → get_or ps i None ≡ Some p → i < length ps
in_list [] i p h = cc
in_list (x ∷ ps) zero p h = omega arith
in_list (x ∷ ps) (suc i) p h = let later = in_list ps i p h in omega arith

next_some : (ps : List (Option Path)) (e : Entry) (s : PathStep) (p : Path) → next_path ps e ≡ Some (s ∷ p) → (get_or ps e.above None ≡ Some p) × (step_of e.step ≡ s)
next_some [] e s p h = cc
next_some (x ∷ ps) e s p h = some_below (get_or (x ∷ ps) e.above None) (step_of e.step) s p h

pub stood : (ps : List (Option Path)) (es : List Entry) (j n : ℕ) (d : Entry) (s : PathStep) (p : Path) → j < length es → n ≡ length ps + j → get_or (paths_from ps es) n None ≡ Some (s ∷ p)
    → ((get_or es j d).above < n) × (get_or (paths_from ps es) (get_or es j d).above None ≡ Some p) × (step_of (get_or es j d).step ≡ s)
stood ps [] j n d s p h is g = absurd (none_in j h)
stood ps (e ∷ es) zero n d s p h is g =
    let more = ps ++ next_path ps e ∷ [] in
    let there : get_or (paths_from more es) n None ≡ get_or more n None = keeps more es n (grind (arith, common_steps)) in
    let value : get_or more n None ≡ next_path ps e = grind (arith, common_steps) in
    let parts = next_some ps e s p (sym (there ∙ value) ∙ g) in
    let low : e.above < length ps = in_list ps e.above p parts.0 in
    let one : get_or (paths_from more es) e.above None ≡ get_or more e.above None = keeps more es e.above (grind (arith, common_steps)) in
    let two : get_or more e.above None ≡ get_or ps e.above None = grind (arith, common_steps) in
    (omega arith, one ∙ two ∙ parts.0, parts.1)
stood ps (e ∷ es) (suc j) n d s p h is g = stood (ps ++ next_path ps e ∷ []) es j n d s p (omega arith) (grind (arith, common_steps)) g

pub entry_is : (es : List Entry) (n place : ℕ) (s : PathStep) → IsEntry es n place s → get_or (paths_from [] es) n None ≡ below (paths_from [] es) place s
entry_is [] n place s is = absurd (none_in n is.within)
entry_is (e ∷ es) n place s is =
    let all = e ∷ es in
    let low : (get_or all n e).above < n = rw (is.above e) is.after in
    let b = is_below all n e is.within low in
    rw (is.above e, is.step e) at b

whole : (e : Entry) (es : List Entry) (n : ℕ) (s : PathStep) (p : Path) → get_or (paths_from [] (e ∷ es)) n None ≡ Some (s ∷ p) → 0 < n
whole e es zero s p h =
    let first : get_or (paths_from (Some [] ∷ []) es) 0 None ≡ Some [] = keeps (Some [] ∷ []) es 0 (omega arith) in
    cc
whole e es (suc n) s p h = omega arith

found_none : (es : List Entry) (index : Index) (place : ℕ) (s : PathStep) (p : Path) → IsIndexed es index → IsNew es place s → get_or (paths_from [] es) place None ≡ Some p
    → (n : ℕ) → get_or (paths_from [] es) n None ≡ Some (s ∷ p) → ⊥
found_none [] index place s p is new at n g = absurd (none_in 0 is.some)
found_none (e ∷ es) index place s p is new at n g =
    let within : n < length (paths_from [] (e ∷ es)) = in_list _ n (s ∷ p) g in
    let low : n < length (e ∷ es) = grind (arith, count [] (e ∷ es)) in
    let parts = stood [] (e ∷ es) n n e s p low (omega arith) g in
    new n e (whole e es n s p g) low parts.0 (is.distinct _ place p parts.1 at) parts.2

pub found_is : (es : List Entry) (index : Index) (r : Option ℕ) (place : ℕ) (s : PathStep) (p : Path) → IsIndexed es index → IfSome r (λ n. IsEntry es n place s) → IfNone r (IsNew es place s)
    → get_or (paths_from [] es) place None ≡ Some p → r ≡ number_of (paths_from [] es) (s ∷ p)
found_is es index (Some n) place s p is there new at =
    let stands_for : get_or (paths_from [] es) n None ≡ Some (s ∷ p) = entry_is es n place s there ∙ ap (option_map (λ x. s ∷ x)) at in
    sym (number_is (paths_from [] es) (s ∷ p) n stands_for (λ j g. is.distinct j n (s ∷ p) g stands_for))
found_is es index None place s p is there new at = sym (number_none (paths_from [] es) (s ∷ p) (found_none es index place s p is new at))

first : (ps : List (Option Path)) (o x : Option Path) (j : ℕ) (p : Path) → ((i : ℕ) → x ≡ Some p → get_or ps i None ≡ Some p → 0 ≡ suc i) → (o ≡ Some p → ⊥) → x ≡ Some p → get_or (ps ++ o ∷ []) j None ≡ Some p → 0 ≡ suc j
first [] o x zero p old new h k = absurd (new k)
first [] o x (suc j) p old new h k = cc
first (y ∷ ps) o x zero p old new h k = old 0 h k
first (y ∷ ps) o x (suc j) p old new h k =
    let later = first ps o x j p (λ i g m. grind (arith, old (suc i) g m)) new h k in
    omega arith

one_distinct : (ps : List (Option Path)) (o : Option Path) → ((i j : ℕ) (p : Path) → get_or ps i None ≡ Some p → get_or ps j None ≡ Some p → i ≡ j) → ((i : ℕ) (p : Path) → o ≡ Some p → get_or ps i None ≡ Some p → ⊥)
    → (i j : ℕ) (p : Path) → get_or (ps ++ o ∷ []) i None ≡ Some p → get_or (ps ++ o ∷ []) j None ≡ Some p → i ≡ j
one_distinct [] o old new zero zero p h k = refl
one_distinct [] o old new zero (suc j) p h k = cc
one_distinct [] o old new (suc i) zero p h k = cc
one_distinct [] o old new (suc i) (suc j) p h k = cc
one_distinct (x ∷ ps) o old new zero zero p h k = refl
one_distinct (x ∷ ps) o old new zero (suc j) p h k = first ps o x j p (λ i g m. grind (arith, old 0 (suc i) p g m)) (λ g. new 0 p g h) h k
one_distinct (x ∷ ps) o old new (suc i) zero p h k = sym (first ps o x i p (λ j g m. grind (arith, old 0 (suc j) p g m)) (λ g. new 0 p g k) k h)
one_distinct (x ∷ ps) o old new (suc i) (suc j) p h k =
    let later = one_distinct ps o (λ a b q g m. grind (arith, old (suc a) (suc b) q g m)) (λ a q g m. new (suc a) q g m) i j p h k in
    omega arith

one_found : (es : List Entry) (index : Index) (e : Entry) → IsIndexed es index → (e.above < length es → indexed index e.above (step_of e.step) ≡ Some (length es))
    → (i : ℕ) (d : Entry) → 0 < i → i < length (es ++ e ∷ []) → (get_or (es ++ e ∷ []) i d).above < i → indexed index (get_or (es ++ e ∷ []) i d).above (step_of (get_or (es ++ e ∷ []) i d).step) ≡ Some i
one_found es index e is here i d some low before = elim (cases_lt i (length es)) [
  | inl lower ↦ (let same : get_or (es ++ e ∷ []) i d ≡ get_or es i d = grind (arith, common_steps) in
      rw same (is.found i d some lower (rw same at before)))
  | inr upper ↦ (let last : i ≡ length es = grind (arith, common_steps) in
      let same : get_or (es ++ e ∷ []) i d ≡ e = grind (arith, common_steps) in
      rw same (rw last (here (omega (arith, rw same at before)))))
]

below_is : (o : Option Path) (s : PathStep) (q : Path) → option_map (λ x. s ∷ x) o ≡ Some q → (p : Path) × (o ≡ Some p) × (q ≡ s ∷ p)
below_is None s q h = cc
below_is (Some p) s q h = (p, refl, cc)

no_such : (es : List Entry) (index : Index) (e : Entry) → IsIndexed es index → IsNew es e.above (step_of e.step)
    → (i : ℕ) (q : Path) → below (paths_from [] es) e.above (step_of e.step) ≡ Some q → get_or (paths_from [] es) i None ≡ Some q → ⊥
no_such es index e is new i q h k =
    let parts = below_is (get_or (paths_from [] es) e.above None) (step_of e.step) q h in
    found_none es index e.above (step_of e.step) parts.0 is new parts.1 i (k ∙ ap Some parts.2)

pub one_more : (es : List Entry) (index : Index) (e : Entry) → IsIndexed es index → length es < length index.members.items → IsNew es e.above (step_of e.step)
    → (e.above < length es → indexed index e.above (step_of e.step) ≡ Some (length es)) → IsIndexed (es ++ e ∷ []) index
one_more es index e is room new here = record {
  some = grind (arith, common_steps);
  room = grind (arith, common_steps);
  found = λ i d some low before. one_found es index e is here i d some low before;
  distinct = rw (added es e is.some) (one_distinct (paths_from [] es) (below (paths_from [] es) e.above (step_of e.step)) is.distinct (λ i p h k. no_such es index e is new i p h k));
}
