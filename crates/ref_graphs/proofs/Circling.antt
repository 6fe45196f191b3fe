-- Searches for circles.
use Rattle.std.proofs.Common.{◌≡◌, ◌∙◌, refl, sym, ap, subst, ℕ, suc, zero, ◌+◌, ◌*◌, ◌-◌, ◌<◌, ◌≤◌, ◌⊎◌, inl, inr, ⊎_elim, Bool, true, false, not, ◌&&◌, ◌||◌, ◌==◌, if◌then◌else◌, List, [], ◌∷◌, ◌++◌, length, map, drop, get_or, set, replicate, Option, Some, None, option_copied, Bor, arith, eq-eqb}
use Rattle.std.specs.Prelude.{slice_get, nat_lt, All}
use Rattle.std.specs.List.{list_all, sum_by}
use Rattle.std.specs.Slice.{IsItemAt}
use Rattle.std.specs.Option.{option_map_or}
use Rattle.std.proofs.lemmas.Bool.{false≢true, both_ways, and_parts, and_from, or_cases, or_left, or_right, or_from, not-true, not_from_false, eqb-true, ltb-true, ne_eqb, cases_eq, cases_lt, false_from_ne_true}
use Rattle.std.proofs.lemmas.Option.{slice_get_within, slice_get_past, slice_get_read, same_Some, none-some}
use Rattle.std.proofs.lemmas.List.{length-set, length_push, length-replicate, length-map, length-drop, get_or-replicate, get_or_past}
use Rattle.std.proofs.lemmas.List.Elements.{All-weaker, All-push, All-cons, All-nil}
use Rattle.std.proofs.lemmas.List.Folds.{list_any-append, list_any_at}
use Rattle.std.proofs.lemmas.List.Quantifiers.{all_pairs_push}
use Rattle.std.proofs.lemmas.List.Sums.{sum_by-set, sum_by_push, list_all-from_AllPass}
use Rattle.ref_graphs.specs.declared.circles.State.{State}
use Rattle.ref_graphs.specs.declared.circles.State.TheVariants.{New, Open, Done}
use Rattle.ref_graphs.specs.declared.circles.Opened.{Opened}
use Rattle.ref_graphs.specs.Circles.{Step, leads, is_circle}
use Rattle.ref_graphs.specs.Reaching.{is_between}
use Rattle.ref_graphs.specs.Closing.{Circle, is_closing, is_other, IsClosed, AreClosed, AreAll, AreApart, AreShown}
use Rattle.ref_graphs.specs.inner.Searching.{from_of, after, AreChains}
use Rattle.ref_graphs.specs.inner.Circling.{state_at, entered, way, IsGiven, Trace, PassesTo, Passes, IsStack, IsPassed, IsOwn, IsTraced, IsMade, IsListed, Holds, Kept, weight, measure}
use Rattle.ref_graphs.proofs.Searching.{set_cases, chain_here, chain_first, chain_begins, chain_falls, between_at}

-- ---- states

abbrev is_new : State → Bool
is_new New = true
is_new (Open i) = false
is_new Done = false

abbrev is_done : State → Bool
is_done New = false
is_done (Open i) = false
is_done Done = true

abbrev number_of : State → ℕ
number_of New = 0
number_of (Open i) = i
number_of Done = 0

done_open : (s : State) (i : ℕ) → s ≡ Done → s ≡ Open i → ⊥
done_open s i done opened = false≢true (sym (ap is_done opened) ∙ ap is_done done)

new_open : (s : State) (i : ℕ) → s ≡ New → s ≡ Open i → ⊥
new_open s i new opened = false≢true (sym (ap is_new opened) ∙ ap is_new new)

new_done : (s : State) → s ≡ New → s ≡ Done → ⊥
new_done s new done = false≢true (sym (ap is_new done) ∙ ap is_new new)

same_open : (s : State) (i j : ℕ) → s ≡ Open i → s ≡ Open j → i ≡ j
same_open s i j one other = ap number_of (sym one ∙ other)

-- the state of a place, after one was set
state_cases : (states new : List State) (q p : ℕ) (v : State) → new ≡ set states q v
    → ((p ≡ q) × (q < length states) × (state_at new p ≡ v)) ⊎ (((p ≡ q → ⊥) ⊎ (length states ≤ q)) × (state_at new p ≡ state_at states p))
state_cases states new q p v is =
    subst (λ l. ((p ≡ q) × (q < length states) × (get_or l p Done ≡ v)) ⊎ (((p ≡ q → ⊥) ⊎ (length states ≤ q)) × (get_or l p Done ≡ get_or states p Done))) (sym is)
    (set_cases states q p v Done)

-- that of another place
state_other : (states new : List State) (q p : ℕ) (v : State) → new ≡ set states q v → (p ≡ q → ⊥) → state_at new p ≡ state_at states p
state_other states new q p v is other =
    ⊎_elim (λ here. absurd (other here.0)) (λ apart. apart.1) (state_cases states new q p v is)

state_there : (states new : List State) (q : ℕ) (v : State) → new ≡ set states q v → q < length states → state_at new q ≡ v
state_there states new q v is within =
    ⊎_elim
    (λ here. here.2)
    (λ apart. ⊎_elim (λ other. absurd (other refl)) (λ past. absurd (omega (arith, past, within))) apart.0)
    (state_cases states new q q v is)

-- ---- stacks

pub nth_left : {X : Type 0} (xs ys : List X) (k : ℕ) → k < length xs → slice_get (xs ++ ys) k ≡ slice_get xs k
nth_left [] ys k less = absurd (omega arith)
nth_left (x ∷ xs) ys zero less = refl
nth_left (x ∷ xs) ys (suc k) less = nth_left xs ys k (omega arith)

nth_seam : {X : Type 0} (xs : List X) (x : X) → slice_get (xs ++ x ∷ []) (length xs) ≡ Some x
nth_seam [] x = refl
nth_seam (y ∷ xs) x = nth_seam xs x

nth_drop : {X : Type 0} (n : ℕ) (xs : List X) → slice_get (drop n xs) 0 ≡ slice_get xs n
nth_drop zero xs = refl
nth_drop (suc n) [] = refl
nth_drop (suc n) (x ∷ xs) = nth_drop n xs

-- what is in a list with one more
pushed : {X : Type 0} (xs : List X) (y e : X) (i : ℕ) → slice_get (xs ++ y ∷ []) i ≡ Some e → ((i < length xs) × (slice_get xs i ≡ Some e)) ⊎ ((i ≡ length xs) × (y ≡ e))
pushed xs y e i is =
    let within : i < length (xs ++ y ∷ []) = slice_get_within (xs ++ y ∷ []) i e is in
    ⊎_elim
    (λ less. inl (less, sym (nth_left xs (y ∷ []) i less) ∙ is))
    (λ past.
    let same : i ≡ length xs = omega (arith, past, within, length_push xs y) in
    inr (same, same_Some y e (sym (nth_seam xs y) ∙ ap (slice_get (xs ++ y ∷ [])) (sym same) ∙ is)))
    (cases_lt i (length xs))

-- what is in a list is in one with more
in_front : {X : Type 0} (xs ys : List X) (e : X) (i : ℕ) → slice_get xs i ≡ Some e → slice_get (xs ++ ys) i ≡ Some e
in_front xs ys e i is = nth_left xs ys i (slice_get_within xs i e is) ∙ is

at_end : {X : Type 0} (xs : List X) (y : X) → slice_get (xs ++ y ∷ []) (length xs) ≡ Some y
at_end xs y = nth_seam xs y

past_end : {X : Type 0} (xs : List X) (y e : X) (C : Type 0) → slice_get (xs ++ y ∷ []) (length xs + 1) ≡ Some e → C
past_end xs y e C is =
    let within : length xs + 1 < length (xs ++ y ∷ []) = slice_get_within (xs ++ y ∷ []) (length xs + 1) e is in
    absurd (omega (arith, within, length_push xs y))

-- ---- circles that were found

closing_cases : (list : List Circle) (c : Circle) (n : ℕ) → is_closing (list ++ c ∷ []) n ≡ true → (is_closing list n ≡ true) ⊎ (c.closing ≡ n)
closing_cases list c n is =
    ⊎_elim
    (λ old. inl old)
    (λ new. ⊎_elim (λ here. inr (eqb-true c.closing n here)) (λ none. absurd (false≢true none)) (or_cases (c.closing == n) false new))
    (or_cases (is_closing list n) (c.closing == n || false) (sym (list_any-append (λ (d : Circle). d.closing == n) list (c ∷ [])) ∙ is))

closing_more : (list : List Circle) (c : Circle) (n : ℕ) → is_closing list n ≡ true → is_closing (list ++ c ∷ []) n ≡ true
closing_more list c n is =
    list_any-append (λ (d : Circle). d.closing == n) list (c ∷ []) ∙ or_left (is_closing list n) (c.closing == n || false) is

closing_new : (list : List Circle) (c : Circle) (n : ℕ) → c.closing ≡ n → is_closing (list ++ c ∷ []) n ≡ true
closing_new list c n same =
    list_any-append (λ (d : Circle). d.closing == n) list (c ∷ [])
    ∙ or_right (is_closing list n) (c.closing == n || false) (or_left (c.closing == n) false (eq-eqb c.closing n same))

other_more : (count : ℕ) (steps : List Step) (list : List Circle) (c : Circle) (n : ℕ) → is_other count steps list n ≡ true → (c.closing ≡ n → ⊥) → is_other count steps (list ++ c ∷ []) n ≡ true
other_more count steps list c n is apart =
    let both = and_parts (is_between count steps n) (not (is_closing list n)) is in
    let none : is_closing (list ++ c ∷ []) n ≡ false =
    list_any-append (λ (d : Circle). d.closing == n) list (c ∷ [])
    ∙ or_from (is_closing list n) (c.closing == n || false) (not-true (is_closing list n) both.1) (or_from (c.closing == n) false (ne_eqb c.closing n apart) refl) in
    and_from (is_between count steps n) (not (is_closing (list ++ c ∷ []) n)) both.0 (not_from_false (is_closing (list ++ c ∷ []) n) none)

-- what was passed stays so
abbrev IsOn : List Step → Trace → Trace → Type 0
IsOn steps a b = (n : ℕ) → IsPassed steps a n → IsPassed steps b n

own_same : (count : ℕ) (steps : List Step) (a b : Trace) (n : ℕ) → IsOn steps a b → b.list ≡ a.list → IsOwn count steps a n → IsOwn count steps b n
own_same count steps a b n on list own = (subst (λ l. is_other count steps l n ≡ true) (sym list) own.0, on n own.1)

own_more : (count : ℕ) (steps : List Step) (a b : Trace) (c : Circle) (n : ℕ) → IsOn steps a b → b.list ≡ a.list ++ c ∷ [] → (IsPassed steps a c.closing → ⊥) → IsOwn count steps a n → IsOwn count steps b n
own_more count steps a b c n on list new own = (
  subst (λ l. is_other count steps l n ≡ true) (sym list) (other_more count steps a.list c n own.0 (λ same. new (subst (λ k. IsPassed steps a k) (sym same) own.1))),
  on n own.1,
)

made_on : (count : ℕ) (steps : List Step) (a b : Trace) (c : Circle) → ((n : ℕ) → IsOwn count steps a n → IsOwn count steps b n) → IsMade count steps a c → IsMade count steps b c
made_on count steps a b c on made =
    let (ns, own, between, back, size, shown) = made in
    (ns, All-weaker (IsOwn count steps a) (IsOwn count steps b) on ns own, between, back, size, shown)

listed_same : (count : ℕ) (steps : List Step) (a b : Trace) → IsOn steps a b → b.list ≡ a.list → b.given ≤ a.given → IsListed count steps a → IsListed count steps b
listed_same count steps a b on list given listed = record {
  passed = λ n is. on n (listed.passed n (subst (λ l. is_closing l n ≡ true) list is));
  made = subst (λ l. All (IsMade count steps b) l) (sym list)
      (All-weaker (IsMade count steps a) (IsMade count steps b) (λ c. made_on count steps a b c (λ n. own_same count steps a b n on list)) a.list listed.made);
  apart = subst (λ l. AreApart l) (sym list) listed.apart;
  given = subst (λ l. b.given ≤ sum_by (λ (c : Circle). c.size) l) (sym list) (omega (arith, given, listed.given));
  shown = subst (λ l. AreShown l) (sym list) listed.shown;
}

-- with one more, which is closed by a step that wasn't passed before
listed_more : (count : ℕ) (steps : List Step) (a b : Trace) (c : Circle) → IsOn steps a b → b.list ≡ a.list ++ c ∷ [] → (IsPassed steps a c.closing → ⊥) → IsPassed steps b c.closing
    → IsMade count steps b c → b.given ≤ a.given + c.size → (c.steps ≡ [] → 65536 < a.given + c.size) → IsListed count steps a → IsListed count steps b
listed_more count steps a b c on list new now made given shown listed =
    let size = λ (d : Circle). d.size in
    let sums : sum_by size (a.list ++ c ∷ []) ≡ sum_by size a.list + c.size = sum_by_push size a.list c in
    record {
      passed = λ n is. ⊎_elim
          (λ old. on n (listed.passed n old))
          (λ same. subst (λ k. IsPassed steps b k) same now)
          (closing_cases a.list c n (subst (λ l. is_closing l n ≡ true) list is));
      made = subst (λ l. All (IsMade count steps b) l) (sym list)
          (All-push (IsMade count steps b) a.list c
          (All-weaker (IsMade count steps a) (IsMade count steps b) (λ d. made_on count steps a b d (λ n. own_more count steps a b c n on list new)) a.list listed.made)
          made);
      apart = subst (λ l. AreApart l) (sym list)
          (all_pairs_push (λ (d : Circle) (e : Circle). d.closing ≡ e.closing → ⊥) a.list c listed.apart
          (λ k d within same. new (listed.passed c.closing (list_any_at (λ (e : Circle). e.closing == c.closing) a.list k d within (eq-eqb (get_or a.list k d).closing c.closing same)))));
      given = subst (λ l. b.given ≤ sum_by size l) (sym list) (omega (arith, given, listed.given, sums));
      shown = subst (λ l. AreShown l) (sym list)
          (All-push (λ (d : Circle). d.steps ≡ [] → 65536 < sum_by size (a.list ++ c ∷ [])) a.list c
          (All-weaker (λ (d : Circle). d.steps ≡ [] → 65536 < sum_by size a.list) (λ (d : Circle). d.steps ≡ [] → 65536 < sum_by size (a.list ++ c ∷ []))
          (λ d old none. let before : 65536 < sum_by size a.list = old none in omega (arith, before, sums)) a.list listed.shown)
          (λ none. let more : 65536 < a.given + c.size = shown none in omega (arith, more, listed.given, sums)));
    }

-- ---- a place is left

pub left_stack : (count : ℕ) (steps : List Step) (a b : Trace) (rest : List Opened) (e : Opened) → IsStack count steps a → a.stack ≡ rest ++ e ∷ []
    → b.states ≡ set a.states e.place Done → b.stack ≡ rest → IsStack count steps b
left_stack count steps a b rest e stack is states fewer = record {
  places = ap length states ∙ length-set a.states e.place Done ∙ stack.places;
  opened = λ i f there.
      let in_rest : slice_get rest i ≡ Some f = subst (λ l. slice_get l i ≡ Some f) fewer there in
      let in_a : slice_get a.stack i ≡ Some f = subst (λ l. slice_get l i ≡ Some f) (sym is) (in_front rest (e ∷ []) f i in_rest) in
      let top : slice_get a.stack (length rest) ≡ Some e = subst (λ l. slice_get l (length rest) ≡ Some e) (sym is) (at_end rest e) in
      let was = stack.opened i f in_a in
      let other : f.place ≡ e.place → ⊥ = λ same.
      let number : i ≡ length rest = same_open (state_at a.states e.place) i (length rest) (subst (λ p. state_at a.states p ≡ Open i) same was.1) (stack.opened (length rest) e top).1 in
      omega (arith, number, slice_get_within rest i f in_rest) in
      (was.0, state_other a.states b.states e.place f.place Done states other ∙ was.1);
  begins = λ i f n there.
      stack.begins i f n (subst (λ l. slice_get l i ≡ Some f) (sym is) (in_front rest (e ∷ []) f i (subst (λ l. slice_get l i ≡ Some f) fewer there)));
}

abbrev ranked : (ℕ → ℕ) → ℕ → ℕ → ℕ → ℕ
ranked rank q top p = if p == q then top else rank p

ranked_there : (rank : ℕ → ℕ) (q top p : ℕ) → p ≡ q → ranked rank q top p ≡ top
ranked_there rank q top p same = ap (λ b. if b then top else rank p) (eq-eqb p q same)

ranked_other : (rank : ℕ → ℕ) (q top p : ℕ) → (p ≡ q → ⊥) → ranked rank q top p ≡ rank p
ranked_other rank q top p other = ap (λ b. if b then top else rank p) (ne_eqb p q other)

left_on : (count : ℕ) (steps : List Step) (a b : Trace) (rest : List Opened) (e : Opened) → IsStack count steps a → a.stack ≡ rest ++ e ∷ []
    → b.states ≡ set a.states e.place Done → b.stack ≡ rest → IsOn steps a b
left_on count steps a b rest e stack is states fewer n passed =
    let at_top : slice_get a.stack (length rest) ≡ Some e = subst (λ l. slice_get l (length rest) ≡ Some e) (sym is) (at_end rest e) in
    let own = stack.opened (length rest) e at_top in
    let within : e.place < length a.states = omega (arith, own.0, stack.places) in
    let there : state_at b.states e.place ≡ Done = state_there a.states b.states e.place Done states within in
    ⊎_elim
    (λ done. ⊎_elim
    (λ here. inl (ap (state_at b.states) here ∙ there))
    (λ other. inl (state_other a.states b.states e.place (from_of steps n) Done states other ∙ done))
    (cases_eq (from_of steps n) e.place))
    (λ pending.
    let (i, f, found, place, upto) = pending in
    ⊎_elim
    (λ inner. inr (i, f, subst (λ l. slice_get l i ≡ Some f) (sym fewer) inner.1, place, upto))
    (λ last. inl (ap (state_at b.states) (sym place ∙ sym (ap (λ (g : Opened). g.place) last.1)) ∙ there))
    (pushed rest e f i (subst (λ l. slice_get l i ≡ Some f) is found)))
    passed

left_traced : (count : ℕ) (steps : List Step) (rank : ℕ → ℕ) (top : ℕ) (a b : Trace) (rest : List Opened) (e : Opened) → IsStack count steps a → IsTraced count steps rank top a
    → a.stack ≡ rest ++ e ∷ [] → e.next ≡ None → b.states ≡ set a.states e.place Done → b.stack ≡ rest → b.list ≡ a.list
    → IsTraced count steps (ranked rank e.place top) (top + 1) b
left_traced count steps rank top a b rest e stack traced is none states fewer list =
    let at_top : slice_get a.stack (length rest) ≡ Some e = subst (λ l. slice_get l (length rest) ≡ Some e) (sym is) (at_end rest e) in
    let own = stack.opened (length rest) e at_top in
    let within : e.place < length a.states = omega (arith, own.0, stack.places) in
    let there : state_at b.states e.place ≡ Done = state_there a.states b.states e.place Done states within in
    let in_a = λ (i : ℕ) (f : Opened) (h : slice_get b.stack i ≡ Some f). subst (λ l. slice_get l i ≡ Some f) (sym is) (in_front rest (e ∷ []) f i (subst (λ l. slice_get l i ≡ Some f) fewer h)) in
    let apart = λ (p : ℕ) (h : state_at a.states p ≡ Done) (same : p ≡ e.place). done_open (state_at a.states e.place) (length rest) (subst (λ q. state_at a.states q ≡ Done) same h) own.1 in
    let still = λ (p : ℕ) (h : state_at a.states p ≡ Done). state_other a.states b.states e.place p Done states (apart p h) ∙ h in
    let told = λ (n : ℕ) (h : is_closing a.list n ≡ true). subst (λ l. is_closing l n ≡ true) (sym list) h in
    record {
      opens = λ p i opened. ⊎_elim
          (λ here. absurd (done_open (state_at b.states p) i here.2 opened))
          (λ other.
          let (f, found, same) = traced.opens p i (sym other.1 ∙ opened) in
          ⊎_elim
          (λ inner. (f, subst (λ l. slice_get l i ≡ Some f) (sym fewer) inner.1, same))
          (λ last.
          let is_p : p ≡ e.place = sym same ∙ sym (ap (λ (g : Opened). g.place) last.1) in
          ⊎_elim (λ no. absurd (no is_p)) (λ past. absurd (omega (arith, past, within))) other.0)
          (pushed rest e f i (subst (λ l. slice_get l i ≡ Some f) is found)))
          (state_cases a.states b.states e.place p Done states);
      passed = λ i f n s found step begins upto ends. ⊎_elim
          (λ closes. inl (told n closes))
          (λ leads. ⊎_elim
          (λ done. inr (inl (still s.to done)))
          (λ more.
          let (g, next, same) = more in
          ⊎_elim
          (λ inner. inr (inr (g, subst (λ l. slice_get l (i + 1) ≡ Some g) (sym fewer) inner.1, same)))
          (λ last. inr (inl (subst (λ q. state_at b.states q ≡ Done) (ap (λ (h : Opened). h.place) last.1 ∙ same) there)))
          (pushed rest e g (i + 1) (subst (λ l. slice_get l (i + 1) ≡ Some g) is next)))
          leads)
          (traced.passed i f n s (in_a i f found) step begins upto ends);
      entered = λ i f g one other. traced.entered i f g (in_a i f one) (in_a (i + 1) g other);
      own = λ i f found. own_same count steps a b f.by (left_on count steps a b rest e stack is states fewer) list (traced.own i f (in_a (i + 1) f found));
      done = λ n s step from to is_done. ⊎_elim
          (λ here. ⊎_elim
          (λ closes. inl (told n closes))
          (λ leads.
          let reached : state_at a.states s.to ≡ Done = ⊎_elim
          (λ done. done)
          (λ more. past_end rest e more.0 (state_at a.states s.to ≡ Done) (subst (λ l. slice_get l (length rest + 1) ≡ Some more.0) is more.1))
          leads in
          inr (
            still s.to reached,
            omega (arith, traced.below s.to to reached, ranked_there rank e.place top s.from here, ranked_other rank e.place top s.to (apart s.to reached)),
          ))
          (traced.passed (length rest) e n s at_top step here (subst (λ o. after o ≤ n) (sym none) (omega arith)) to))
          (λ other.
          let was : state_at a.states s.from ≡ Done = sym (state_other a.states b.states e.place s.from Done states other) ∙ is_done in
          ⊎_elim
          (λ closes. inl (told n closes))
          (λ old. inr (
            still s.to old.0,
            omega (arith, old.1, ranked_other rank e.place top s.from other, ranked_other rank e.place top s.to (apart s.to old.0)),
          ))
          (traced.done n s step from to was))
          (cases_eq s.from e.place);
      below = λ p within_count is_done. ⊎_elim
          (λ here. omega (arith, ranked_there rank e.place top p here))
          (λ other.
          let was : state_at a.states p ≡ Done = sym (state_other a.states b.states e.place p Done states other) ∙ is_done in
          omega (arith, traced.below p within_count was, ranked_other rank e.place top p other))
          (cases_eq p e.place);
    }

pub left_holds : (count : ℕ) (steps : List Step) (a b : Trace) (rest : List Opened) (e : Opened) → IsStack count steps a → Holds count steps a
    → a.stack ≡ rest ++ e ∷ [] → e.next ≡ None → b.states ≡ set a.states e.place Done → b.stack ≡ rest → b.given ≡ a.given → b.list ≡ a.list → Holds count steps b
left_holds count steps a b rest e stack holds is none states fewer given list =
    let (rank, top, traced, listed) = holds in (
      ranked rank e.place top,
      top + 1,
      left_traced count steps rank top a b rest e stack traced is none states fewer list,
      listed_same count steps a b (left_on count steps a b rest e stack is states fewer) list (omega (arith, given)) listed,
    )

-- ---- a step of the place that was opened last is passed

new_within : (states : List State) (p : ℕ) → state_at states p ≡ New → p < length states
new_within states p new =
    ⊎_elim (λ within. within) (λ past. absurd (new_done (state_at states p) new (get_or_past states p Done past))) (cases_lt p (length states))

pub middle_stack : (count : ℕ) (steps : List Step) (last before : List (Option ℕ)) (a m : Trace) (rest : List Opened) (e d : Opened) (n : ℕ) → AreChains (from_of steps) count (length steps) last before
    → IsStack count steps a → a.stack ≡ rest ++ e ∷ [] → e.next ≡ Some n → m.states ≡ a.states → m.stack ≡ rest ++ d ∷ []
    → d.place ≡ e.place → d.next ≡ get_or before n None → IsStack count steps m
middle_stack count steps last before a m rest e d n chains stack is next states on place more =
    let top : slice_get a.stack (length rest) ≡ Some e = subst (λ l. slice_get l (length rest) ≡ Some e) (sym is) (at_end rest e) in
    let own = stack.opened (length rest) e top in
    let first = stack.begins (length rest) e n top next in
    let in_a = λ (i : ℕ) (f : Opened) (h : slice_get rest i ≡ Some f). subst (λ l. slice_get l i ≡ Some f) (sym is) (in_front rest (e ∷ []) f i h) in
    record {
      places = ap length states ∙ stack.places;
      opened = λ i f there. ⊎_elim
          (λ inner.
          let was = stack.opened i f (in_a i f inner.1) in
          (was.0, subst (λ l. state_at l f.place ≡ Open i) (sym states) was.1))
          (λ here.
          let same : f.place ≡ e.place = sym (ap (λ (g : Opened). g.place) here.1) ∙ place in (
            omega (arith, own.0, same),
            subst (λ k. state_at m.states f.place ≡ Open k) (sym here.0) (subst (λ l. state_at l f.place ≡ Open (length rest)) (sym states) (ap (state_at a.states) same ∙ own.1)),
          ))
          (pushed rest d f i (subst (λ l. slice_get l i ≡ Some f) on there));
      begins = λ i f k there some. ⊎_elim
          (λ inner. stack.begins i f k (in_a i f inner.1) some)
          (λ here.
          let old = chain_begins steps count (length steps) last before e.place n d.next chains first.0 first.1 more k (ap (λ (g : Opened). g.next) here.1 ∙ some) in
          (old.0, old.1 ∙ sym place ∙ ap (λ (g : Opened). g.place) here.1))
          (pushed rest d f i (subst (λ l. slice_get l i ≡ Some f) on there));
    }

pushed_stack : (count : ℕ) (steps : List Step) (last before : List (Option ℕ)) (m b : Trace) (s : Step) (n : ℕ) → AreChains (from_of steps) count (length steps) last before
    → IsStack count steps m → state_at m.states s.to ≡ New → b.states ≡ set m.states s.to (Open (length m.stack)) → b.stack ≡ m.stack ++ entered last s.to n ∷ [] → IsStack count steps b
pushed_stack count steps last before m b s n chains stack new states more =
    let within = new_within m.states s.to new in
    record {
      places = ap length states ∙ length-set m.states s.to (Open (length m.stack)) ∙ stack.places;
      opened = λ i f there. ⊎_elim
          (λ inner.
          let was = stack.opened i f inner.1 in
          let other = λ (same : f.place ≡ s.to). new_open (state_at m.states s.to) i new (subst (λ p. state_at m.states p ≡ Open i) same was.1) in
          (was.0, state_other m.states b.states s.to f.place (Open (length m.stack)) states other ∙ was.1))
          (λ here.
          let same : f.place ≡ s.to = sym (ap (λ (g : Opened). g.place) here.1) in (
            omega (arith, same, within, stack.places),
            subst (λ k. state_at b.states f.place ≡ Open k) (sym here.0) (subst (λ p. state_at b.states p ≡ Open (length m.stack)) (sym same) (state_there m.states b.states s.to (Open (length m.stack)) states within)),
          ))
          (pushed m.stack (entered last s.to n) f i (subst (λ l. slice_get l i ≡ Some f) more there));
      begins = λ i f k there some. ⊎_elim
          (λ inner. stack.begins i f k inner.1 some)
          (λ here.
          let old = chains.begins s.to k (ap (λ (g : Opened). g.next) here.1 ∙ some) in
          (old.0, old.1 ∙ ap (λ (g : Opened). g.place) here.1))
          (pushed m.stack (entered last s.to n) f i (subst (λ l. slice_get l i ≡ Some f) more there));
    }

same_stack : (count : ℕ) (steps : List Step) (m b : Trace) → IsStack count steps m → b.states ≡ m.states → b.stack ≡ m.stack → IsStack count steps b
same_stack count steps m b stack states same = record {
  places = ap length states ∙ stack.places;
  opened = λ i f there.
      let was = stack.opened i f (subst (λ l. slice_get l i ≡ Some f) same there) in
      (was.0, subst (λ l. state_at l f.place ≡ Open i) (sym states) was.1);
  begins = λ i f k there. stack.begins i f k (subst (λ l. slice_get l i ≡ Some f) same there);
}

stack_by : (count : ℕ) (steps : List Step) (last before : List (Option ℕ)) (m b : Trace) (s : Step) (n : ℕ) (v : State) → AreChains (from_of steps) count (length steps) last before
    → IsStack count steps m → state_at m.states s.to ≡ v → PassesTo last n s v m b → IsStack count steps b
stack_by count steps last before m b s n New chains stack is passes = pushed_stack count steps last before m b s n chains stack is passes.0 passes.1
stack_by count steps last before m b s n (Open i) chains stack is passes = same_stack count steps m b stack passes.0 passes.1
stack_by count steps last before m b s n Done chains stack is passes = same_stack count steps m b stack passes.0 passes.1

pub passed_stack : (count : ℕ) (steps : List Step) (last before : List (Option ℕ)) (m b : Trace) (n : ℕ) (o : Option Step) → AreChains (from_of steps) count (length steps) last before
    → IsStack count steps m → Passes last n o m b → IsStack count steps b
passed_stack count steps last before m b n None chains stack passes = same_stack count steps m b stack passes.0 passes.1
passed_stack count steps last before m b n (Some s) chains stack passes = stack_by count steps last before m b s n (state_at m.states s.to) chains stack refl passes

-- the last open place, of which one step more was passed
pub record IsMoved (count : ℕ) (steps : List Step) (before : List (Option ℕ)) (a : Trace) (rest : List Opened) (e d : Opened) (n : ℕ) (s : Step) : Type 0 where
  pub is : a.stack ≡ rest ++ e ∷ []
  pub next : e.next ≡ Some n
  pub place : d.place ≡ e.place
  pub by : d.by ≡ e.by
  pub more : d.next ≡ get_or before n None
  pub falls : after d.next < after e.next
  pub step : slice_get steps n ≡ Some s
  pub from : s.from ≡ e.place
  pub within : e.place < count

-- what was passed of it is the step, or closes a circle, or leads to a place that is done
top_passed : (count : ℕ) (steps : List Step) (last before : List (Option ℕ)) (rank : ℕ → ℕ) (top : ℕ) (a : Trace) (rest : List Opened) (e d : Opened) (n : ℕ) (s : Step) → AreChains (from_of steps) count (length steps) last before
    → IsTraced count steps rank top a → IsMoved count steps before a rest e d n s
    → (k : ℕ) (t : Step) → slice_get steps k ≡ Some t → t.from ≡ e.place → after d.next ≤ k → t.to < count → (k ≡ n) ⊎ ((is_closing a.list k ≡ true) ⊎ (state_at a.states t.to ≡ Done))
top_passed count steps last before rank top a rest e d n s chains traced moved k t there begins upto ends =
    ⊎_elim
    (λ earlier. ⊎_elim
    (λ same. inl same)
    (λ no. absurd (omega (arith, no, upto)))
    (chain_here steps count (length steps) last before e.place n e.next d.next chains moved.next (slice_get_within steps n s moved.step)
    (ap (λ o. option_map_or (λ (u : Step). u.from) o 0) moved.step ∙ moved.from) moved.more k t there begins (omega (arith, begins, moved.within)) earlier))
    (λ later. ⊎_elim
    (λ closes. inr (inl closes))
    (λ leads. ⊎_elim
    (λ done. inr (inr done))
    (λ more. past_end rest e more.0 ((k ≡ n) ⊎ ((is_closing a.list k ≡ true) ⊎ (state_at a.states t.to ≡ Done))) (subst (λ l. slice_get l (length rest + 1) ≡ Some more.0) moved.is more.1))
    leads)
    (traced.passed (length rest) e k t (subst (λ l. slice_get l (length rest) ≡ Some e) (sym moved.is) (at_end rest e)) there begins later ends))
    (cases_lt k (after e.next))

-- what was passed of any of the open places, as the last one is now
abbrev Middle : (a : Trace) (stack : List Opened) (rest : List Opened) (n i k : ℕ) (t : Step) → Type 0
Middle a stack rest n i k t =
    ((i ≡ length rest) × (k ≡ n))
    ⊎ ((is_closing a.list k ≡ true)
    ⊎ ((state_at a.states t.to ≡ Done) ⊎ ((h : Opened) × (slice_get stack (i + 1) ≡ Some h) × (h.place ≡ t.to))))

middle_passed : (count : ℕ) (steps : List Step) (last before : List (Option ℕ)) (rank : ℕ → ℕ) (top : ℕ) (a : Trace) (rest : List Opened) (e d : Opened) (n : ℕ) (s : Step) → AreChains (from_of steps) count (length steps) last before
    → IsTraced count steps rank top a → IsMoved count steps before a rest e d n s
    → (i : ℕ) (f : Opened) (k : ℕ) (t : Step) → slice_get (rest ++ d ∷ []) i ≡ Some f → slice_get steps k ≡ Some t → t.from ≡ f.place → after f.next ≤ k → t.to < count
    → Middle a (rest ++ d ∷ []) rest n i k t
middle_passed count steps last before rank top a rest e d n s chains traced moved i f k t found there begins upto ends =
    ⊎_elim
    (λ inner. ⊎_elim
    (λ closes. inr (inl closes))
    (λ leads. ⊎_elim
    (λ done. inr (inr (inl done)))
    (λ more.
    let (g, next, same) = more in
    ⊎_elim
    (λ in_rest. inr (inr (inr (g, in_front rest (d ∷ []) g (i + 1) in_rest.1, same))))
    (λ at. inr (inr (inr (d, subst (λ j. slice_get (rest ++ d ∷ []) j ≡ Some d) (sym at.0) (at_end rest d), moved.place ∙ ap (λ (h : Opened). h.place) at.1 ∙ same))))
    (pushed rest e g (i + 1) (subst (λ l. slice_get l (i + 1) ≡ Some g) moved.is next)))
    leads)
    (traced.passed i f k t (subst (λ l. slice_get l i ≡ Some f) (sym moved.is) (in_front rest (e ∷ []) f i inner.1)) there begins upto ends))
    (λ here. ⊎_elim
    (λ same. inl (here.0, same))
    (λ other. ⊎_elim (λ closes. inr (inl closes)) (λ done. inr (inr (inl done))) other)
    (top_passed count steps last before rank top a rest e d n s chains traced moved k t there (begins ∙ sym (ap (λ (h : Opened). h.place) here.1) ∙ moved.place)
    (subst (λ (h : Opened). after h.next ≤ k) (sym here.1) upto) ends))
    (pushed rest d f i found)

middle_entered : (count : ℕ) (steps : List Step) (before : List (Option ℕ)) (rank : ℕ → ℕ) (top : ℕ) (a : Trace) (rest : List Opened) (e d : Opened) (n : ℕ) (s : Step)
    → IsTraced count steps rank top a → IsMoved count steps before a rest e d n s
    → (i : ℕ) (f g : Opened) → slice_get (rest ++ d ∷ []) i ≡ Some f → slice_get (rest ++ d ∷ []) (i + 1) ≡ Some g
    → (u : Step) × (slice_get steps g.by ≡ Some u) × (u.from ≡ f.place) × (u.to ≡ g.place)
middle_entered count steps before rank top a rest e d n s traced moved i f g one other =
    let in_a = λ (j : ℕ) (h : Opened) (there : slice_get rest j ≡ Some h). subst (λ l. slice_get l j ≡ Some h) (sym moved.is) (in_front rest (e ∷ []) h j there) in
    let first : slice_get rest i ≡ Some f = ⊎_elim
    (λ inner. inner.1)
    (λ here. past_end rest d g (slice_get rest i ≡ Some f) (subst (λ j. slice_get (rest ++ d ∷ []) (j + 1) ≡ Some g) here.0 other))
    (pushed rest d f i one) in
    ⊎_elim
    (λ inner. traced.entered i f g (in_a i f first) (in_a (i + 1) g inner.1))
    (λ here.
    let at_top : slice_get a.stack (i + 1) ≡ Some e =
    subst (λ j. slice_get a.stack j ≡ Some e) (sym here.0) (subst (λ l. slice_get l (length rest) ≡ Some e) (sym moved.is) (at_end rest e)) in
    let (u, by, from, to) = traced.entered i f e (in_a i f first) at_top in
    (u, subst (λ k. slice_get steps k ≡ Some u) (sym moved.by ∙ ap (λ (h : Opened). h.by) here.1) by, from, to ∙ sym moved.place ∙ ap (λ (h : Opened). h.place) here.1))
    (pushed rest d g (i + 1) other)

middle_own : (count : ℕ) (steps : List Step) (before : List (Option ℕ)) (rank : ℕ → ℕ) (top : ℕ) (a : Trace) (rest : List Opened) (e d : Opened) (n : ℕ) (s : Step)
    → IsTraced count steps rank top a → IsMoved count steps before a rest e d n s
    → (i : ℕ) (g : Opened) → slice_get (rest ++ d ∷ []) (i + 1) ≡ Some g → IsOwn count steps a g.by
middle_own count steps before rank top a rest e d n s traced moved i g there =
    ⊎_elim
    (λ inner. traced.own i g (subst (λ l. slice_get l (i + 1) ≡ Some g) (sym moved.is) (in_front rest (e ∷ []) g (i + 1) inner.1)))
    (λ here.
    let at_top : slice_get a.stack (i + 1) ≡ Some e =
    subst (λ j. slice_get a.stack j ≡ Some e) (sym here.0) (subst (λ l. slice_get l (length rest) ≡ Some e) (sym moved.is) (at_end rest e)) in
    subst (λ k. IsOwn count steps a k) (sym moved.by ∙ ap (λ (h : Opened). h.by) here.1) (traced.own i e at_top))
    (pushed rest d g (i + 1) there)

middle_opens : (count : ℕ) (steps : List Step) (before : List (Option ℕ)) (rank : ℕ → ℕ) (top : ℕ) (a : Trace) (rest : List Opened) (e d : Opened) (n : ℕ) (s : Step)
    → IsTraced count steps rank top a → IsMoved count steps before a rest e d n s
    → (p i : ℕ) → state_at a.states p ≡ Open i → (f : Opened) × (slice_get (rest ++ d ∷ []) i ≡ Some f) × (f.place ≡ p)
middle_opens count steps before rank top a rest e d n s traced moved p i opened =
    let (f, found, same) = traced.opens p i opened in
    ⊎_elim
    {C = (f : Opened) × (slice_get (rest ++ d ∷ []) i ≡ Some f) × (f.place ≡ p)}
    (λ inner. (f, in_front rest (d ∷ []) f i inner.1, same))
    (λ here. (d, subst (λ j. slice_get (rest ++ d ∷ []) j ≡ Some d) (sym here.0) (at_end rest d), moved.place ∙ ap (λ (h : Opened). h.place) here.1 ∙ same))
    (pushed rest e f i (subst (λ l. slice_get l i ≡ Some f) moved.is found))

-- where the step begins
moved_from : (count : ℕ) (steps : List Step) (before : List (Option ℕ)) (a : Trace) (rest : List Opened) (e d : Opened) (n : ℕ) (s : Step) → IsMoved count steps before a rest e d n s → from_of steps n ≡ e.place
moved_from count steps before a rest e d n s moved = ap (λ o. option_map_or (λ (u : Step). u.from) o 0) moved.step ∙ moved.from

-- the step wasn't passed before
moved_new : (count : ℕ) (steps : List Step) (before : List (Option ℕ)) (a : Trace) (rest : List Opened) (e d : Opened) (n : ℕ) (s : Step) → IsStack count steps a
    → IsMoved count steps before a rest e d n s → IsPassed steps a n → ⊥
moved_new count steps before a rest e d n s stack moved passed =
    let top : slice_get a.stack (length rest) ≡ Some e = subst (λ l. slice_get l (length rest) ≡ Some e) (sym moved.is) (at_end rest e) in
    let own = stack.opened (length rest) e top in
    let from = moved_from count steps before a rest e d n s moved in
    ⊎_elim
    (λ done. done_open (state_at a.states e.place) (length rest) (ap (state_at a.states) (sym from) ∙ done) own.1)
    (λ pending.
    let (i, f, found, place, upto) = pending in
    let there = stack.opened i f found in
    let number : i ≡ length rest = same_open (state_at a.states e.place) i (length rest) (ap (state_at a.states) (sym from ∙ sym place) ∙ there.1) own.1 in
    let is_e : f ≡ e = same_Some f e (sym found ∙ ap (slice_get a.stack) number ∙ top) in
    let low : after e.next ≤ n = subst (λ (g : Opened). after g.next ≤ n) is_e upto in
    omega (arith, low, ap after moved.next))
    passed

-- and what was passed stays so
moved_on : (count : ℕ) (steps : List Step) (before : List (Option ℕ)) (a b : Trace) (rest : List Opened) (e d : Opened) (n : ℕ) (s : Step) → IsMoved count steps before a rest e d n s
    → ((p : ℕ) → state_at a.states p ≡ Done → state_at b.states p ≡ Done) → ((i : ℕ) (f : Opened) → slice_get (rest ++ d ∷ []) i ≡ Some f → slice_get b.stack i ≡ Some f) → IsOn steps a b
moved_on count steps before a b rest e d n s moved still front k passed =
    ⊎_elim
    (λ done. inl (still (from_of steps k) done))
    (λ pending.
    let (i, f, found, place, upto) = pending in
    ⊎_elim
    {C = IsPassed steps b k}
    (λ inner. inr (i, f, front i f (in_front rest (d ∷ []) f i inner.1), place, upto))
    (λ here.
    let low : after e.next ≤ k = subst (λ (g : Opened). after g.next ≤ k) (sym here.1) upto in
    inr (length rest, d, front (length rest) d (at_end rest d), moved.place ∙ ap (λ (g : Opened). g.place) here.1 ∙ place, omega (arith, low, moved.falls)))
    (pushed rest e f i (subst (λ l. slice_get l i ≡ Some f) moved.is found)))
    passed

moved_now : (count : ℕ) (steps : List Step) (before : List (Option ℕ)) (a b : Trace) (rest : List Opened) (e d : Opened) (n : ℕ) (s : Step) → IsMoved count steps before a rest e d n s
    → slice_get b.stack (length rest) ≡ Some d → IsPassed steps b n
moved_now count steps before a b rest e d n s moved there =
    inr (length rest, d, there, moved.place ∙ sym (moved_from count steps before a rest e d n s moved), omega (arith, moved.falls, ap after moved.next))

-- where the step leads to a place that is done, or closes a circle
still_traced : (count : ℕ) (steps : List Step) (last before : List (Option ℕ)) (rank : ℕ → ℕ) (top : ℕ) (a b : Trace) (rest : List Opened) (e d : Opened) (n : ℕ) (s : Step) → AreChains (from_of steps) count (length steps) last before
    → IsTraced count steps rank top a → IsMoved count steps before a rest e d n s → (is_closing b.list n ≡ true) ⊎ (state_at a.states s.to ≡ Done)
    → b.states ≡ a.states → b.stack ≡ rest ++ d ∷ [] → ((k : ℕ) → is_closing a.list k ≡ true → is_closing b.list k ≡ true) → ((k : ℕ) → IsOwn count steps a k → IsOwn count steps b k)
    → IsTraced count steps rank top b
still_traced count steps last before rank top a b rest e d n s chains traced moved leads_to states stack told owned =
    let now = λ (p : ℕ) (v : State) (h : state_at a.states p ≡ v). subst (λ l. state_at l p ≡ v) (sym states) h in
    let was = λ (p : ℕ) (v : State) (h : state_at b.states p ≡ v). subst (λ l. state_at l p ≡ v) states h in
    let in_middle = λ (i : ℕ) (f : Opened) (h : slice_get b.stack i ≡ Some f). subst (λ l. slice_get l i ≡ Some f) stack h in
    record {
      opens = λ p i opened.
          let (f, found, same) = middle_opens count steps before rank top a rest e d n s traced moved p i (was p (Open i) opened) in
          (f, subst (λ l. slice_get l i ≡ Some f) (sym stack) found, same);
      passed = λ i f k t found there begins upto ends. ⊎_elim
          (λ here. ⊎_elim
          (λ closes. inl (subst (λ j. is_closing b.list j ≡ true) (sym here.1) closes))
          (λ done.
          let is_s : s ≡ t = same_Some s t (sym moved.step ∙ subst (λ j. slice_get steps j ≡ Some t) here.1 there) in
          inr (inl (now t.to Done (subst (λ (u : Step). state_at a.states u.to ≡ Done) is_s done))))
          leads_to)
          (λ other. ⊎_elim
          (λ closes. inl (told k closes))
          (λ leads. ⊎_elim
          (λ done. inr (inl (now t.to Done done)))
          (λ more. inr (inr (more.0, subst (λ l. slice_get l (i + 1) ≡ Some more.0) (sym stack) more.1, more.2)))
          leads)
          other)
          (middle_passed count steps last before rank top a rest e d n s chains traced moved i f k t (in_middle i f found) there begins upto ends);
      entered = λ i f g one other. middle_entered count steps before rank top a rest e d n s traced moved i f g (in_middle i f one) (in_middle (i + 1) g other);
      own = λ i f found. owned f.by (middle_own count steps before rank top a rest e d n s traced moved i f (in_middle (i + 1) f found));
      done = λ k t there from to finished. ⊎_elim
          (λ closes. inl (told k closes))
          (λ old. inr (now t.to Done old.0, old.1))
          (traced.done k t there from to (was t.from Done finished));
      below = λ p within finished. traced.below p within (was p Done finished);
    }

-- where it leads to a new one
new_traced : (count : ℕ) (steps : List Step) (last before : List (Option ℕ)) (rank : ℕ → ℕ) (top : ℕ) (a b : Trace) (rest : List Opened) (e d : Opened) (n : ℕ) (s : Step) → AreChains (from_of steps) count (length steps) last before
    → IsTraced count steps rank top a → IsMoved count steps before a rest e d n s → length a.states ≡ count → state_at a.states s.to ≡ New → IsOwn count steps b n → IsOn steps a b
    → b.states ≡ set a.states s.to (Open (length (rest ++ d ∷ []))) → b.stack ≡ (rest ++ d ∷ []) ++ entered last s.to n ∷ [] → b.list ≡ a.list → IsTraced count steps rank top b
new_traced count steps last before rank top a b rest e d n s chains traced moved places is_new own_n on states stack list =
    let middle = rest ++ d ∷ [] in
    let f = entered last s.to n in
    let within : s.to < length a.states = new_within a.states s.to is_new in
    let number = length middle in
    let there : state_at b.states s.to ≡ Open number = state_there a.states b.states s.to (Open number) states within in
    let at_f : slice_get b.stack number ≡ Some f = subst (λ l. slice_get l number ≡ Some f) (sym stack) (at_end middle f) in
    let long : number ≡ length rest + 1 = length_push rest d in
    let apart = λ (p : ℕ) (h : state_at a.states p ≡ Done) (same : p ≡ s.to). new_done (state_at a.states s.to) is_new (subst (λ q. state_at a.states q ≡ Done) same h) in
    let still = λ (p : ℕ) (h : state_at a.states p ≡ Done). state_other a.states b.states s.to p (Open number) states (apart p h) ∙ h in
    let told = λ (k : ℕ) (h : is_closing a.list k ≡ true). subst (λ l. is_closing l k ≡ true) (sym list) h in
    let was = λ (p : ℕ) (h : state_at b.states p ≡ Done). ⊎_elim
    {C = state_at a.states p ≡ Done}
    (λ here. absurd (done_open (state_at b.states p) number h here.2))
    (λ other. sym other.1 ∙ h)
    (state_cases a.states b.states s.to p (Open number) states) in
    let in_front_of = λ (i : ℕ) (g : Opened) (h : slice_get middle i ≡ Some g). subst (λ l. slice_get l i ≡ Some g) (sym stack) (in_front middle (f ∷ []) g i h) in
    record {
      opens = λ p i opened. ⊎_elim
          (λ here.
          let same : i ≡ number = same_open (state_at b.states p) i number opened here.2 in
          (f, subst (λ j. slice_get b.stack j ≡ Some f) (sym same) at_f, sym here.0))
          (λ other.
          let (g, found, same) = middle_opens count steps before rank top a rest e d n s traced moved p i (sym other.1 ∙ opened) in
          (g, in_front_of i g found, same))
          (state_cases a.states b.states s.to p (Open number) states);
      passed = λ i g k t found step begins upto ends. ⊎_elim
          (λ inner. ⊎_elim
          (λ here.
          let is_s : s ≡ t = same_Some s t (sym moved.step ∙ subst (λ j. slice_get steps j ≡ Some t) here.1 step) in
          inr (inr (f, subst (λ j. slice_get b.stack j ≡ Some f) (omega (arith, here.0, long)) at_f, ap (λ (u : Step). u.to) is_s)))
          (λ other. ⊎_elim
          (λ closes. inl (told k closes))
          (λ leads. ⊎_elim
          (λ done. inr (inl (still t.to done)))
          (λ more. inr (inr (more.0, in_front_of (i + 1) more.0 more.1, more.2)))
          leads)
          other)
          (middle_passed count steps last before rank top a rest e d n s chains traced moved i g k t inner.1 step begins upto ends))
          (λ here.
          let at_to : t.from ≡ s.to = begins ∙ sym (ap (λ (h : Opened). h.place) here.1) in
          let first = chain_first steps count (length steps) last before s.to f.next chains refl refl k t step at_to (omega (arith, at_to, within, places)) in
          absurd (omega (arith, first, upto, ap (λ (h : Opened). after h.next) here.1)))
          (pushed middle f g i (subst (λ l. slice_get l i ≡ Some g) stack found));
      entered = λ i g h one other.
          let first : slice_get middle i ≡ Some g = ⊎_elim
          (λ inner. inner.1)
          (λ here. past_end middle f h (slice_get middle i ≡ Some g) (subst (λ j. slice_get (middle ++ f ∷ []) (j + 1) ≡ Some h) here.0 (subst (λ l. slice_get l (i + 1) ≡ Some h) stack other)))
          (pushed middle f g i (subst (λ l. slice_get l i ≡ Some g) stack one)) in
          ⊎_elim
          (λ inner. middle_entered count steps before rank top a rest e d n s traced moved i g h first inner.1)
          (λ here.
          let at : i ≡ length rest = omega (arith, here.0, long) in
          let is_d : d ≡ g = same_Some d g (sym (at_end rest d) ∙ subst (λ j. slice_get middle j ≡ Some g) at first) in
          (s, subst (λ (o : Opened). slice_get steps o.by ≡ Some s) here.1 moved.step, moved.from ∙ sym moved.place ∙ ap (λ (o : Opened). o.place) is_d, ap (λ (o : Opened). o.place) here.1))
          (pushed middle f h (i + 1) (subst (λ l. slice_get l (i + 1) ≡ Some h) stack other));
      own = λ i g found. ⊎_elim
          (λ inner. own_same count steps a b g.by on list (middle_own count steps before rank top a rest e d n s traced moved i g inner.1))
          (λ here. subst (λ (o : Opened). IsOwn count steps b o.by) here.1 own_n)
          (pushed middle f g (i + 1) (subst (λ l. slice_get l (i + 1) ≡ Some g) stack found));
      done = λ k t step from to finished. ⊎_elim
          (λ closes. inl (told k closes))
          (λ old. inr (still t.to old.0, old.1))
          (traced.done k t step from to (was t.from finished));
      below = λ p within_count finished. traced.below p within_count (was p finished);
    }

-- ---- a step that comes back to an open place

abbrev tail : {X : Type 0} → List X → List X
tail [] = []
tail (x ∷ xs) = xs

drop_more : {X : Type 0} (k : ℕ) (xs : List X) (y : X) (ys : List X) → drop k xs ≡ y ∷ ys → drop (suc k) xs ≡ ys
drop_more zero [] y ys is = absurd (omega (arith, ap length is))
drop_more zero (x ∷ xs) y ys is = ap tail is
drop_more (suc k) [] y ys is = absurd (omega (arith, ap length is))
drop_more (suc k) (x ∷ xs) y ys is = drop_more k xs y ys is

next_number : (k : ℕ) → suc k ≡ k + 1
next_number k = omega arith

drop_next : {X : Type 0} (k : ℕ) (xs : List X) (y : X) (ys : List X) → drop k xs ≡ y ∷ ys → drop (k + 1) xs ≡ ys
drop_next k xs y ys is = subst (λ n. drop n xs ≡ ys) (next_number k) (drop_more k xs y ys is)

none_dropped : {X : Type 0} (k : ℕ) (xs : List X) → drop k xs ≡ [] → length xs ≤ k
none_dropped zero xs is = omega (arith, ap length is)
none_dropped (suc k) [] is = omega arith
none_dropped (suc k) (x ∷ xs) is = let rest = none_dropped k xs is in omega (arith, rest)

leads_round : (steps : List Step) (stack rest : List Opened) (d : Opened) (n : ℕ) (s : Step) → stack ≡ rest ++ d ∷ []
    → ((i : ℕ) (f g : Opened) → slice_get stack i ≡ Some f → slice_get stack (i + 1) ≡ Some g → (u : Step) × (slice_get steps g.by ≡ Some u) × (u.from ≡ f.place) × (u.to ≡ g.place))
    → slice_get steps n ≡ Some s → s.from ≡ d.place
    → (ys : List Opened) (depth : ℕ) (g : Opened) → drop (depth + 1) stack ≡ ys → slice_get stack depth ≡ Some g
    → leads steps g.place (map (λ (e : Opened). e.by) ys ++ n ∷ []) s.to ≡ true
leads_round steps stack rest d n s is entered step from [] depth g none at =
    let last : g.place ≡ d.place = ⊎_elim
    (λ inner.
    let short : depth + 1 < length stack = omega (arith, inner.0, ap length is, length_push rest d) in
    absurd (omega (arith, short, none_dropped (depth + 1) stack none)))
    (λ here. sym (ap (λ (h : Opened). h.place) here.1))
    (pushed rest d g depth (subst (λ l. slice_get l depth ≡ Some g) is at)) in
    subst (λ o. option_map_or (λ t. t.from == g.place && (t.to == s.to)) o false ≡ true) (sym step)
    (and_from (s.from == g.place) (s.to == s.to) (eq-eqb s.from g.place (from ∙ sym last)) (eq-eqb s.to s.to refl))
leads_round steps stack rest d n s is entered step from (y ∷ ys) depth g more at =
    let next : slice_get stack (depth + 1) ≡ Some y = sym (nth_drop (depth + 1) stack) ∙ ap (λ l. slice_get l 0) more in
    let (u, by, begins, ends) = entered depth g y at next in
    let on = leads_round steps stack rest d n s is entered step from ys (depth + 1) y (drop_next (depth + 1) stack y ys more) next in
    subst (λ o. option_map_or (λ t. t.from == g.place && leads steps t.to (map (λ (e : Opened). e.by) ys ++ n ∷ []) s.to) o false ≡ true) (sym by)
    (and_from (u.from == g.place) (leads steps u.to (map (λ (e : Opened). e.by) ys ++ n ∷ []) s.to) (eq-eqb u.from g.place begins) (subst (λ p. leads steps p (map (λ (e : Opened). e.by) ys ++ n ∷ []) s.to ≡ true) (sym ends) on))

-- steps that lead from a place to itself, of which there is one, come back
pub circle_from : (steps : List Step) (m : ℕ) (ms : List ℕ) (p : ℕ) → leads steps p (m ∷ ms) p ≡ true → is_circle steps (m ∷ ms) ≡ true
circle_from steps m ms p led =
    elim (slice_get steps m) as (λ o. option_map_or (λ t. t.from == p && leads steps t.to ms p) o false ≡ true → option_map_or (λ t. leads steps t.to ms t.from) o false ≡ true) [
      | None ↦ λ no. no
      | Some t ↦ λ both.
          let parts = and_parts (t.from == p) (leads steps t.to ms p) both in
          subst (λ q. leads steps t.to ms q ≡ true) (sym (eqb-true t.from p parts.0)) parts.1
    ] led

circle_with : (steps : List Step) (ms : List ℕ) (n p : ℕ) → leads steps p (ms ++ n ∷ []) p ≡ true → is_circle steps (ms ++ n ∷ []) ≡ true
circle_with steps [] n p led = circle_from steps n [] p led
circle_with steps (m ∷ ms) n p led = circle_from steps m (ms ++ n ∷ []) p led

round_back : (count : ℕ) (steps : List Step) (before : List (Option ℕ)) (rank : ℕ → ℕ) (top : ℕ) (a : Trace) (rest : List Opened) (e d : Opened) (n : ℕ) (s : Step) (depth : ℕ)
    → IsTraced count steps rank top a → IsMoved count steps before a rest e d n s → state_at a.states s.to ≡ Open depth → is_circle steps (way (rest ++ d ∷ []) depth ++ n ∷ []) ≡ true
round_back count steps before rank top a rest e d n s depth traced moved opened =
    let (g, found, same) = middle_opens count steps before rank top a rest e d n s traced moved s.to depth opened in
    let stack = rest ++ d ∷ [] in
    let led = leads_round steps stack rest d n s refl (middle_entered count steps before rank top a rest e d n s traced moved) moved.step (moved.from ∙ sym moved.place) (drop (depth + 1) stack) depth g refl found in
    circle_with steps (map (λ (o : Opened). o.by) (drop (depth + 1) stack)) n s.to (subst (λ p. leads steps p (map (λ (o : Opened). o.by) (drop (depth + 1) stack) ++ n ∷ []) s.to ≡ true) same led)

own_way : (count : ℕ) (steps : List Step) (before : List (Option ℕ)) (rank : ℕ → ℕ) (top : ℕ) (a : Trace) (rest : List Opened) (e d : Opened) (n : ℕ) (s : Step)
    → IsTraced count steps rank top a → IsMoved count steps before a rest e d n s
    → (ys : List Opened) (depth : ℕ) → drop (depth + 1) (rest ++ d ∷ []) ≡ ys → All (IsOwn count steps a) (map (λ (o : Opened). o.by) ys)
own_way count steps before rank top a rest e d n s traced moved [] depth is = All-nil (IsOwn count steps a)
own_way count steps before rank top a rest e d n s traced moved (y ∷ ys) depth is =
    let stack = rest ++ d ∷ [] in
    let there : slice_get stack (depth + 1) ≡ Some y = sym (nth_drop (depth + 1) stack) ∙ ap (λ l. slice_get l 0) is in
    All-cons (IsOwn count steps a) y.by (map (λ (o : Opened). o.by) ys) (middle_own count steps before rank top a rest e d n s traced moved depth y there)
    (own_way count steps before rank top a rest e d n s traced moved ys (depth + 1) (drop_next (depth + 1) stack y ys is))

-- the circle that the step closes
round_made : (count : ℕ) (steps : List Step) (before : List (Option ℕ)) (rank : ℕ → ℕ) (top : ℕ) (a b : Trace) (rest : List Opened) (e d : Opened) (n : ℕ) (s : Step) (depth given : ℕ) (c : Circle)
    → IsStack count steps a → IsTraced count steps rank top a → IsMoved count steps before a rest e d n s → state_at a.states s.to ≡ Open depth → ((k : ℕ) → IsOwn count steps a k → IsOwn count steps b k)
    → c.closing ≡ n → c.size ≡ length (rest ++ d ∷ []) - depth → IsGiven (rest ++ d ∷ []) depth n given c.size c.steps → IsMade count steps b c
round_made count steps before rank top a b rest e d n s depth given c stack traced moved opened owned closing size shown =
    let all = rest ++ d ∷ [] in
    let ns = way all depth in
    let (g, found, same) = middle_opens count steps before rank top a rest e d n s traced moved s.to depth opened in
    let (h, there, same_h) = traced.opens s.to depth opened in
    let own = stack.opened depth h there in
    let within : depth < length all = slice_get_within all depth g found in
    let long : length ns + 1 ≡ length all - depth = omega (arith, within, length-map (drop (depth + 1) all) (λ (o : Opened). o.by), length-drop (depth + 1) all) in
    let between : is_between count steps n ≡ true = between_at count steps n s moved.step (omega (arith, moved.from, moved.within)) (omega (arith, own.0, same_h)) in (
      ns,
      All-weaker (IsOwn count steps a) (IsOwn count steps b) owned ns (own_way count steps before rank top a rest e d n s traced moved (drop (depth + 1) all) depth refl),
      subst (λ k. is_between count steps k ≡ true) (sym closing) between,
      subst (λ k. is_circle steps (ns ++ k ∷ []) ≡ true) (sym closing) (round_back count steps before rank top a rest e d n s depth traced moved opened),
      long ∙ sym size,
      ⊎_elim (λ few. inl few.0) (λ whole. inr (whole ∙ ap (λ k. ns ++ k ∷ []) (sym closing))) shown,
    )

few_shown : (stack : List Opened) (depth n given size : ℕ) (steps : List ℕ) → IsGiven stack depth n given size steps → steps ≡ [] → 65536 < given + size
few_shown stack depth n given size steps shown none =
    ⊎_elim
    (λ few. few.1)
    (λ whole.
    let long = length_push (way stack depth) n in
    absurd (omega (arith, long, ap length whole, ap length none)))
    shown

-- what is at a place of a list
pub got : {A : Type 0} (xs : List A) (i : ℕ) (r : Option (Bor A)) → IsItemAt xs i r → option_copied r ≡ slice_get xs i
got xs i None (is, lent, within, past, more) = sym (slice_get_past xs i past)
got xs i (Some b) (is, lent, within, there, more) = sym (slice_get_read xs (length xs) i b.now refl there.0 lent)

-- what becomes of a search where a step is passed
pub passes_to : (last : List (Option ℕ)) (n : ℕ) (o : Option Step) (s : Step) (v : State) (a b : Trace) → o ≡ Some s → state_at a.states s.to ≡ v → PassesTo last n s v a b → Passes last n o a b
passes_to last n o s v a b is state passes =
    subst (λ p. Passes last n p a b) (sym is) (subst (λ w. PassesTo last n s w a b) (sym state) passes)

-- ---- what holds after it

holds_by : (count : ℕ) (steps : List Step) (last before : List (Option ℕ)) (a m b : Trace) (rest : List Opened) (e d : Opened) (n : ℕ) (s : Step) (v : State) → AreChains (from_of steps) count (length steps) last before
    → IsStack count steps a → Holds count steps a → IsMoved count steps before a rest e d n s
    → m.states ≡ a.states → m.stack ≡ rest ++ d ∷ [] → m.given ≡ a.given → m.list ≡ a.list
    → state_at m.states s.to ≡ v → PassesTo last n s v m b → Holds count steps b
holds_by count steps last before a m b rest e d n s New chains stack holds moved states on given list is passes =
    let (rank, top, traced, listed) = holds in
    let middle = rest ++ d ∷ [] in
    let is_new : state_at a.states s.to ≡ New = ap (λ l. state_at l s.to) (sym states) ∙ is in
    let within = new_within a.states s.to is_new in
    let b_states : b.states ≡ set a.states s.to (Open (length middle)) =
    passes.0 ∙ ap (λ l. set l s.to (Open (length m.stack))) states ∙ ap (λ k. set a.states s.to (Open (length k))) on in
    let b_stack : b.stack ≡ middle ++ entered last s.to n ∷ [] = passes.1 ∙ ap (λ l. l ++ entered last s.to n ∷ []) on in
    let b_list : b.list ≡ a.list = passes.3 ∙ list in
    let still = λ (p : ℕ) (h : state_at a.states p ≡ Done).
    state_other a.states b.states s.to p (Open (length middle)) b_states (λ same. new_done (state_at a.states s.to) is_new (subst (λ q. state_at a.states q ≡ Done) same h)) ∙ h in
    let front = λ (i : ℕ) (f : Opened) (h : slice_get middle i ≡ Some f). subst (λ l. slice_get l i ≡ Some f) (sym b_stack) (in_front middle (entered last s.to n ∷ []) f i h) in
    let on_b = moved_on count steps before a b rest e d n s moved still front in
    let none : is_closing b.list n ≡ false = false_from_ne_true (is_closing b.list n)
    (λ told. moved_new count steps before a rest e d n s stack moved (listed.passed n (subst (λ l. is_closing l n ≡ true) b_list told))) in
    let between : is_between count steps n ≡ true = between_at count steps n s moved.step (omega (arith, moved.from, moved.within)) (omega (arith, within, stack.places)) in
    let own_n : IsOwn count steps b n = (
      and_from (is_between count steps n) (not (is_closing b.list n)) between (not_from_false (is_closing b.list n) none),
      moved_now count steps before a b rest e d n s moved (front (length rest) d (at_end rest d)),
    ) in (
      rank,
      top,
      new_traced count steps last before rank top a b rest e d n s chains traced moved stack.places is_new own_n on_b b_states b_stack b_list,
      listed_same count steps a b on_b b_list (omega (arith, passes.2, given)) listed,
    )
holds_by count steps last before a m b rest e d n s (Open depth) chains stack holds moved states on given list is passes =
    let (rank, top, traced, listed) = holds in
    let closes = passes.2 in
    let c = closes.circle in
    let opened : state_at a.states s.to ≡ Open depth = ap (λ l. state_at l s.to) (sym states) ∙ is in
    let b_states : b.states ≡ a.states = passes.0 ∙ states in
    let b_stack : b.stack ≡ rest ++ d ∷ [] = passes.1 ∙ on in
    let b_list : b.list ≡ a.list ++ c ∷ [] = closes.added ∙ ap (λ l. l ++ c ∷ []) list in
    let still = λ (p : ℕ) (h : state_at a.states p ≡ Done). subst (λ l. state_at l p ≡ Done) (sym b_states) h in
    let front = λ (i : ℕ) (f : Opened) (h : slice_get (rest ++ d ∷ []) i ≡ Some f). subst (λ l. slice_get l i ≡ Some f) (sym b_stack) h in
    let on_b = moved_on count steps before a b rest e d n s moved still front in
    let new = λ (passed : IsPassed steps a c.closing). moved_new count steps before a rest e d n s stack moved (subst (λ k. IsPassed steps a k) closes.closing passed) in
    let owned = λ (k : ℕ). own_more count steps a b c k on_b b_list new in
    let now : IsPassed steps b c.closing = subst (λ k. IsPassed steps b k) (sym closes.closing) (moved_now count steps before a b rest e d n s moved (front (length rest) d (at_end rest d))) in
    let shown : IsGiven (rest ++ d ∷ []) depth n a.given c.size c.steps =
    subst (λ g. IsGiven (rest ++ d ∷ []) depth n g c.size c.steps) given (subst (λ l. IsGiven l depth n m.given c.size c.steps) on closes.steps) in
    let made = round_made count steps before rank top a b rest e d n s depth a.given c stack traced moved opened owned closes.closing (closes.size ∙ ap (λ (l : List Opened). length l - depth) on) shown in (
      rank,
      top,
      still_traced count steps last before rank top a b rest e d n s chains traced moved
          (inl (subst (λ l. is_closing l n ≡ true) (sym b_list) (closing_new a.list c n closes.closing))) b_states b_stack
          (λ k h. subst (λ l. is_closing l k ≡ true) (sym b_list) (closing_more a.list c k h)) owned,
      listed_more count steps a b c on_b b_list new now made (omega (arith, closes.given, given)) (few_shown (rest ++ d ∷ []) depth n a.given c.size c.steps shown) listed,
    )
holds_by count steps last before a m b rest e d n s Done chains stack holds moved states on given list is passes =
    let (rank, top, traced, listed) = holds in
    let is_done : state_at a.states s.to ≡ Done = ap (λ l. state_at l s.to) (sym states) ∙ is in
    let b_states : b.states ≡ a.states = passes.0 ∙ states in
    let b_stack : b.stack ≡ rest ++ d ∷ [] = passes.1 ∙ on in
    let b_list : b.list ≡ a.list = passes.3 ∙ list in
    let still = λ (p : ℕ) (h : state_at a.states p ≡ Done). subst (λ l. state_at l p ≡ Done) (sym b_states) h in
    let front = λ (i : ℕ) (f : Opened) (h : slice_get (rest ++ d ∷ []) i ≡ Some f). subst (λ l. slice_get l i ≡ Some f) (sym b_stack) h in
    let on_b = moved_on count steps before a b rest e d n s moved still front in (
      rank,
      top,
      still_traced count steps last before rank top a b rest e d n s chains traced moved (inr is_done) b_states b_stack
          (λ k h. subst (λ l. is_closing l k ≡ true) (sym b_list) h) (λ k. own_same count steps a b k on_b b_list),
      listed_same count steps a b on_b b_list (omega (arith, passes.2, given)) listed,
    )

some_at : (steps : List Step) (n : ℕ) → n < length steps → (s : Step) × (slice_get steps n ≡ Some s)
some_at [] n within = absurd (omega arith)
some_at (s ∷ ss) zero within = (s, refl)
some_at (s ∷ ss) (suc n) within = some_at ss n (omega arith)

-- a step is passed
pub passed_holds : (count : ℕ) (steps : List Step) (last before : List (Option ℕ)) (a m b : Trace) (rest : List Opened) (e d : Opened) (n : ℕ) → AreChains (from_of steps) count (length steps) last before
    → IsStack count steps a → Holds count steps a → a.stack ≡ rest ++ e ∷ [] → e.next ≡ Some n → d.place ≡ e.place → d.by ≡ e.by → d.next ≡ get_or before n None
    → m.states ≡ a.states → m.stack ≡ rest ++ d ∷ [] → m.given ≡ a.given → m.list ≡ a.list
    → Passes last n (slice_get steps n) m b → Holds count steps b
passed_holds count steps last before a m b rest e d n chains stack holds is next place by more states on given list passes =
    let top : slice_get a.stack (length rest) ≡ Some e = subst (λ l. slice_get l (length rest) ≡ Some e) (sym is) (at_end rest e) in
    let first = stack.begins (length rest) e n top next in
    let own = stack.opened (length rest) e top in
    let (s, step) = some_at steps n first.0 in
    let moved : IsMoved count steps before a rest e d n s = record {
      is = is;
      next = next;
      place = place;
      by = by;
      more = more;
      falls = chain_falls (from_of steps) count (length steps) last before n e.next d.next chains next more;
      step = step;
      from = sym (ap (λ o. option_map_or (λ (u : Step). u.from) o 0) step) ∙ first.1;
      within = own.0;
    } in
    holds_by count steps last before a m b rest e d n s (state_at m.states s.to) chains stack holds moved states on given list refl (subst (λ o. Passes last n o m b) step passes)

-- ---- what stays so

kept_set : (a b : Trace) (q : ℕ) (v : State) → b.states ≡ set a.states q v → (v ≡ New → ⊥) → Kept a b
kept_set a b q v states other p met new =
    ⊎_elim
    (λ here. other (sym here.2 ∙ new))
    (λ apart. met (sym apart.1 ∙ new))
    (state_cases a.states b.states q p v states)

kept_same : (a b : Trace) → b.states ≡ a.states → Kept a b
kept_same a b states p met new = met (subst (λ l. state_at l p ≡ New) states new)

not_new_open : (i : ℕ) → Open i ≡ New → ⊥
not_new_open i is = new_open New i refl (sym is)

not_new_done : Done ≡ New → ⊥
not_new_done is = new_done New refl (sym is)

pub left_kept : (a b : Trace) (q : ℕ) → b.states ≡ set a.states q Done → Kept a b
left_kept a b q states = kept_set a b q Done states not_new_done

pub entered_kept : (a b : Trace) (q i : ℕ) → b.states ≡ set a.states q (Open i) → Kept a b
entered_kept a b q i states = kept_set a b q (Open i) states (not_new_open i)

kept_by : (last : List (Option ℕ)) (m b : Trace) (s : Step) (n : ℕ) (v : State) → PassesTo last n s v m b → Kept m b
kept_by last m b s n New passes = entered_kept m b s.to (length m.stack) passes.0
kept_by last m b s n (Open i) passes = kept_same m b passes.0
kept_by last m b s n Done passes = kept_same m b passes.0

pub passed_kept : (last : List (Option ℕ)) (m b : Trace) (n : ℕ) (o : Option Step) → Passes last n o m b → Kept m b
passed_kept last m b n None passes = kept_same m b passes.0
passed_kept last m b n (Some s) passes = kept_by last m b s n (state_at m.states s.to) passes

-- ---- what is left to be done

abbrev next_in : List Opened → ℕ
next_in stack = option_map_or (λ (e : Opened). after e.next) (slice_get stack (length stack - 1)) 0

next_of_last : (rest : List Opened) (e : Opened) → next_in (rest ++ e ∷ []) ≡ after e.next
next_of_last rest e =
    let at : length (rest ++ e ∷ []) - 1 ≡ length rest = omega (arith, length_push rest e) in
    ap (λ o. option_map_or (λ (f : Opened). after f.next) o 0) (ap (slice_get (rest ++ e ∷ [])) at ∙ at_end rest e)

next_bound : (count : ℕ) (steps : List Step) (t : Trace) → IsStack count steps t → next_in t.stack ≤ length steps
next_bound count steps t stack =
    let i = length t.stack - 1 in
    elim (slice_get t.stack i) as (λ o. slice_get t.stack i ≡ o → option_map_or (λ (e : Opened). after e.next) o 0 ≤ length steps) [
      | None ↦ λ is. omega arith
      | Some e ↦ λ is.
          elim e.next as (λ k. e.next ≡ k → after k ≤ length steps) [
            | None ↦ λ none. omega arith
            | Some n ↦ λ some. let first = stack.begins i e n is some in omega (arith, first.0)
          ] refl
    ] refl

plus_times : (w k : ℕ) → w * k + k ≡ (w + 1) * k
plus_times w k = Prim.grind arith

fewer_times : (u w k : ℕ) → w + 1 ≡ u → w * k + k ≡ u * k
fewer_times u w k is = plus_times w k ∙ ap (λ z. z * k) is

-- where a place is done with, or begun
less_by : (count : ℕ) (steps : List Step) (a b : Trace) (q : ℕ) (v : State) → IsStack count steps b → b.states ≡ set a.states q v → q < length a.states → weight v + 1 ≡ weight (state_at a.states q)
    → measure (length steps) b < measure (length steps) a
less_by count steps a b q v stack states within less =
    let sums = sum_by-set weight a.states q v Done within in
    let one : sum_by weight b.states + 1 ≡ sum_by weight a.states = omega (arith, sums, ap (sum_by weight) states, less) in
    let times = fewer_times (sum_by weight a.states) (sum_by weight b.states) (length steps + 1) one in
    let bound = next_bound count steps b stack in
    omega (arith, times, bound)

pub left_less : (count : ℕ) (steps : List Step) (a b : Trace) (rest : List Opened) (e : Opened) → IsStack count steps a → IsStack count steps b → a.stack ≡ rest ++ e ∷ [] → b.states ≡ set a.states e.place Done
    → measure (length steps) b < measure (length steps) a
left_less count steps a b rest e stack now is states =
    let own = stack.opened (length rest) e (subst (λ l. slice_get l (length rest) ≡ Some e) (sym is) (at_end rest e)) in
    less_by count steps a b e.place Done now states (omega (arith, own.0, stack.places)) (sym (ap weight own.1))

less_same : (count : ℕ) (steps : List Step) (last before : List (Option ℕ)) (a b : Trace) (rest : List Opened) (e d : Opened) (n : ℕ) → AreChains (from_of steps) count (length steps) last before
    → a.stack ≡ rest ++ e ∷ [] → e.next ≡ Some n → d.next ≡ get_or before n None → b.states ≡ a.states → b.stack ≡ rest ++ d ∷ [] → measure (length steps) b < measure (length steps) a
less_same count steps last before a b rest e d n chains is next more states on =
    let falls = chain_falls (from_of steps) count (length steps) last before n e.next d.next chains next more in
    let one : next_in b.stack ≡ after d.next = ap next_in on ∙ next_of_last rest d in
    let other : next_in a.stack ≡ after e.next = ap next_in is ∙ next_of_last rest e in
    let same : sum_by weight b.states * (length steps + 1) ≡ sum_by weight a.states * (length steps + 1) = ap (λ l. sum_by weight l * (length steps + 1)) states in
    omega (arith, falls, one, other, same)

less_passed : (count : ℕ) (steps : List Step) (last before : List (Option ℕ)) (a m b : Trace) (rest : List Opened) (e d : Opened) (n : ℕ) (s : Step) (v : State) → AreChains (from_of steps) count (length steps) last before
    → IsStack count steps b → a.stack ≡ rest ++ e ∷ [] → e.next ≡ Some n → d.next ≡ get_or before n None → m.states ≡ a.states → m.stack ≡ rest ++ d ∷ []
    → state_at m.states s.to ≡ v → PassesTo last n s v m b → measure (length steps) b < measure (length steps) a
less_passed count steps last before a m b rest e d n s New chains now is next more states on new passes =
    let is_new : state_at a.states s.to ≡ New = ap (λ l. state_at l s.to) (sym states) ∙ new in
    less_by count steps a b s.to (Open (length m.stack)) now (passes.0 ∙ ap (λ l. set l s.to (Open (length m.stack))) states) (new_within a.states s.to is_new) (sym (ap weight is_new))
less_passed count steps last before a m b rest e d n s (Open i) chains now is next more states on new passes =
    less_same count steps last before a b rest e d n chains is next more (passes.0 ∙ states) (passes.1 ∙ on)
less_passed count steps last before a m b rest e d n s Done chains now is next more states on new passes =
    less_same count steps last before a b rest e d n chains is next more (passes.0 ∙ states) (passes.1 ∙ on)

pub passed_less : (count : ℕ) (steps : List Step) (last before : List (Option ℕ)) (a m b : Trace) (rest : List Opened) (e d : Opened) (n : ℕ) (o : Option Step) → AreChains (from_of steps) count (length steps) last before
    → IsStack count steps b → a.stack ≡ rest ++ e ∷ [] → e.next ≡ Some n → d.next ≡ get_or before n None → m.states ≡ a.states → m.stack ≡ rest ++ d ∷ []
    → Passes last n o m b → measure (length steps) b < measure (length steps) a
passed_less count steps last before a m b rest e d n None chains now is next more states on passes =
    less_same count steps last before a b rest e d n chains is next more (passes.0 ∙ states) (passes.1 ∙ on)
passed_less count steps last before a m b rest e d n (Some s) chains now is next more states on passes =
    less_passed count steps last before a m b rest e d n s (state_at m.states s.to) chains now is next more states on refl passes

-- ---- a place is opened where none is

pub begun_stack : (count : ℕ) (steps : List Step) (last before : List (Option ℕ)) (a b : Trace) (p by : ℕ) → AreChains (from_of steps) count (length steps) last before → IsStack count steps a → state_at a.states p ≡ New
    → b.states ≡ set a.states p (Open (length a.stack)) → b.stack ≡ a.stack ++ entered last p by ∷ [] → IsStack count steps b
begun_stack count steps last before a b p by chains stack new states more =
    pushed_stack count steps last before a b (record { from = 0; to = p }) by chains stack new states more

only : {X : Type 0} (y e : X) (i : ℕ) → slice_get (y ∷ []) i ≡ Some e → (i ≡ 0) × (y ≡ e)
only y e zero is = (refl, same_Some y e is)
only y e (suc i) is = absurd (none-some e is)

begun_on : (steps : List Step) (last : List (Option ℕ)) (a b : Trace) (p : ℕ) → a.stack ≡ [] → state_at a.states p ≡ New → b.states ≡ set a.states p (Open (length a.stack)) → IsOn steps a b
begun_on steps last a b p empty new states n passed =
    ⊎_elim
    {C = IsPassed steps b n}
    (λ done.
    inl (state_other a.states b.states p (from_of steps n) (Open (length a.stack)) states (λ same. new_done (state_at a.states p) new (ap (state_at a.states) (sym same) ∙ done)) ∙ done))
    (λ pending.
    let (i, f, found, place, upto) = pending in
    absurd (none-some f (subst (λ l. slice_get l i ≡ Some f) empty found)))
    passed

begun_traced : (count : ℕ) (steps : List Step) (last before : List (Option ℕ)) (rank : ℕ → ℕ) (top : ℕ) (a b : Trace) (p by : ℕ) → AreChains (from_of steps) count (length steps) last before → IsTraced count steps rank top a
    → length a.states ≡ count → a.stack ≡ [] → state_at a.states p ≡ New → b.states ≡ set a.states p (Open 0) → b.stack ≡ entered last p by ∷ [] → b.list ≡ a.list → IsTraced count steps rank top b
begun_traced count steps last before rank top a b p by chains traced places empty new states one list =
    let f = entered last p by in
    let within : p < length a.states = new_within a.states p new in
    let apart = λ (q : ℕ) (h : state_at a.states q ≡ Done) (same : q ≡ p). new_done (state_at a.states p) new (subst (λ r. state_at a.states r ≡ Done) same h) in
    let still = λ (q : ℕ) (h : state_at a.states q ≡ Done). state_other a.states b.states p q (Open 0) states (apart q h) ∙ h in
    let was = λ (q : ℕ) (h : state_at b.states q ≡ Done). ⊎_elim
    {C = state_at a.states q ≡ Done}
    (λ here. absurd (done_open (state_at b.states q) 0 h here.2))
    (λ other. sym other.1 ∙ h)
    (state_cases a.states b.states p q (Open 0) states) in
    record {
      opens = λ q i opened. ⊎_elim
          (λ here.
          let same : i ≡ 0 = same_open (state_at b.states q) i 0 opened here.2 in
          (f, subst (λ j. slice_get b.stack j ≡ Some f) (sym same) (ap (λ l. slice_get l 0) one), sym here.0))
          (λ other.
          let (g, found, same) = traced.opens q i (sym other.1 ∙ opened) in
          absurd (none-some g (subst (λ l. slice_get l i ≡ Some g) empty found)))
          (state_cases a.states b.states p q (Open 0) states);
      passed = λ i g k t found step begins upto ends.
          let here = only f g i (subst (λ l. slice_get l i ≡ Some g) one found) in
          let at_p : t.from ≡ p = begins ∙ sym (ap (λ (h : Opened). h.place) here.1) in
          let first = chain_first steps count (length steps) last before p f.next chains refl refl k t step at_p (omega (arith, at_p, within, places)) in
          absurd (omega (arith, first, upto, ap (λ (h : Opened). after h.next) here.1));
      entered = λ i g h there next.
          let here = only f h (i + 1) (subst (λ l. slice_get l (i + 1) ≡ Some h) one next) in
          absurd (omega (arith, here.0));
      own = λ i h next.
          let here = only f h (i + 1) (subst (λ l. slice_get l (i + 1) ≡ Some h) one next) in
          absurd (omega (arith, here.0));
      done = λ k t step from to finished. ⊎_elim
          (λ closes. inl (subst (λ l. is_closing l k ≡ true) (sym list) closes))
          (λ old. inr (still t.to old.0, old.1))
          (traced.done k t step from to (was t.from finished));
      below = λ q within_count finished. traced.below q within_count (was q finished);
    }

pub begun_holds : (count : ℕ) (steps : List Step) (last before : List (Option ℕ)) (a b : Trace) (p by : ℕ) → AreChains (from_of steps) count (length steps) last before → IsStack count steps a → Holds count steps a
    → a.stack ≡ [] → state_at a.states p ≡ New → b.states ≡ set a.states p (Open (length a.stack)) → b.stack ≡ a.stack ++ entered last p by ∷ [] → b.given ≡ 0 → b.list ≡ a.list → Holds count steps b
begun_holds count steps last before a b p by chains stack holds empty new states one given list =
    let (rank, top, traced, listed) = holds in (
      rank,
      top,
      begun_traced count steps last before rank top a b p by chains traced stack.places empty new (states ∙ ap (λ l. set a.states p (Open (length l))) empty) (one ∙ ap (λ l. l ++ entered last p by ∷ []) empty) list,
      listed_same count steps a b (begun_on steps last a b p empty new states) list (omega (arith, given)) listed,
    )

pub begun_met : (a b : Trace) (p : ℕ) → state_at a.states p ≡ New → b.states ≡ set a.states p (Open (length a.stack)) → state_at b.states p ≡ New → ⊥
begun_met a b p new states is =
    new_open (state_at b.states p) (length a.stack) is (state_there a.states b.states p (Open (length a.stack)) states (new_within a.states p new))

-- ---- nothing is done yet

all_new : (count p : ℕ) (states : List State) → states ≡ replicate count New → (state_at states p ≡ New) ⊎ (state_at states p ≡ Done)
all_new count p states is =
    subst (λ l. (state_at l p ≡ New) ⊎ (state_at l p ≡ Done)) (sym is)
    (⊎_elim
    (λ within. inl (get_or-replicate count p New Done within))
    (λ past. inr (get_or_past (replicate count New) p Done (omega (arith, past, length-replicate {A = State} count New))))
    (cases_lt p count))

pub start_stack : (count : ℕ) (steps : List Step) (t : Trace) → t.states ≡ replicate count New → t.stack ≡ [] → IsStack count steps t
start_stack count steps t states none = record {
  places = ap length states ∙ length-replicate {A = State} count New;
  opened = λ i e there. absurd (none-some e (subst (λ l. slice_get l i ≡ Some e) none there));
  begins = λ i e n there. absurd (none-some e (subst (λ l. slice_get l i ≡ Some e) none there));
}

pub start_holds : (count : ℕ) (steps : List Step) (t : Trace) → t.states ≡ replicate count New → t.stack ≡ [] → t.given ≡ 0 → t.list ≡ [] → Holds count steps t
start_holds count steps t states none given empty = (
  λ p. 0,
  0,
  record {
    opens = λ p i opened. ⊎_elim
        (λ new. absurd (new_open (state_at t.states p) i new opened))
        (λ done. absurd (done_open (state_at t.states p) i done opened))
        (all_new count p t.states states);
    passed = λ i e n s there. absurd (none-some e (subst (λ l. slice_get l i ≡ Some e) none there));
    entered = λ i e f there. absurd (none-some e (subst (λ l. slice_get l i ≡ Some e) none there));
    own = λ i f there. absurd (none-some f (subst (λ l. slice_get l (i + 1) ≡ Some f) none there));
    done = λ n s step from to finished. absurd
        (new_done (state_at t.states s.from) (subst (λ l. state_at l s.from ≡ New) (sym states) (get_or-replicate count s.from New Done from)) finished);
    below = λ p within finished. absurd
        (new_done (state_at t.states p) (subst (λ l. state_at l p ≡ New) (sym states) (get_or-replicate count p New Done within)) finished);
  },
  record {
    passed = λ n is. absurd (false≢true (subst (λ l. is_closing l n ≡ true) empty is));
    made = subst (λ l. All (IsMade count steps t) l) (sym empty) (All-nil (IsMade count steps t));
    apart = subst (λ l. AreApart l) (sym empty) (λ i j d before within. absurd (omega (arith, within)));
    given = omega (arith, given);
    shown = subst (λ l. AreShown l) (sym empty) (λ k d within. absurd (omega (arith, within)));
  },
)

-- ---- no circle

is_finished : (count : ℕ) (steps : List Step) (rank : ℕ → ℕ) (top : ℕ) (t : Trace) → IsTraced count steps rank top t → t.stack ≡ [] → (p : ℕ) → (state_at t.states p ≡ New → ⊥) → (v : State) → state_at t.states p ≡ v → v ≡ Done
is_finished count steps rank top t traced empty p met New is = absurd (met is)
is_finished count steps rank top t traced empty p met (Open i) is =
    let (g, found, same) = traced.opens p i is in
    absurd (none-some g (subst (λ l. slice_get l i ≡ Some g) empty found))
is_finished count steps rank top t traced empty p met Done is = refl

falls : (count : ℕ) (steps : List Step) (list : List Circle) (rank : ℕ → ℕ)
    → ((n : ℕ) (s : Step) → slice_get steps n ≡ Some s → s.from < count → s.to < count → is_closing list n ≡ false → rank s.to < rank s.from)
    → (ns : List ℕ) (a b : ℕ) → list_all (is_other count steps list) ns ≡ true → leads steps a ns b ≡ true → rank b ≤ rank a
falls count steps list rank down [] a b others led = omega (arith, ap rank (eqb-true a b led))
falls count steps list rank down (n ∷ ns) a b others led =
    let both = and_parts (is_other count steps list n) (list_all (is_other count steps list) ns) others in
    let own = and_parts (is_between count steps n) (not (is_closing list n)) both.0 in
    elim (slice_get steps n) as (λ o. slice_get steps n ≡ o → option_map_or (λ t. nat_lt t.from count && nat_lt t.to count) o false ≡ true → option_map_or (λ t. t.from == a && leads steps t.to ns b) o false ≡ true → rank b ≤ rank a) [
      | None ↦ λ is here led. absurd (false≢true here)
      | Some s ↦ λ is here led.
          let on = and_parts (s.from == a) (leads steps s.to ns b) led in
          let ends = and_parts (nat_lt s.from count) (nat_lt s.to count) here in
          let one = down n s is (ltb-true s.from count ends.0) (ltb-true s.to count ends.1) (not-true (is_closing list n) own.1) in
          let rest = falls count steps list rank down ns s.to b both.1 on.1 in
          omega (arith, one, rest, ap rank (eqb-true s.from a on.0))
    ] refl own.0 led

no_circle : (count : ℕ) (steps : List Step) (list : List Circle) (rank : ℕ → ℕ)
    → ((n : ℕ) (s : Step) → slice_get steps n ≡ Some s → s.from < count → s.to < count → is_closing list n ≡ false → rank s.to < rank s.from)
    → (ns : List ℕ) → list_all (is_other count steps list) ns ≡ true → is_circle steps ns ≡ true → ⊥
no_circle count steps list rank down [] others back = false≢true back
no_circle count steps list rank down (n ∷ ns) others back =
    let both = and_parts (is_other count steps list n) (list_all (is_other count steps list) ns) others in
    let own = and_parts (is_between count steps n) (not (is_closing list n)) both.0 in
    elim (slice_get steps n) as (λ o. slice_get steps n ≡ o → option_map_or (λ t. nat_lt t.from count && nat_lt t.to count) o false ≡ true → option_map_or (λ t. leads steps t.to ns t.from) o false ≡ true → ⊥) [
      | None ↦ λ is here led. false≢true here
      | Some s ↦ λ is here led.
          let ends = and_parts (nat_lt s.from count) (nat_lt s.to count) here in
          let one = down n s is (ltb-true s.from count ends.0) (ltb-true s.to count ends.1) (not-true (is_closing list n) own.1) in
          let rest = falls count steps list rank down ns s.to s.from both.1 led in
          omega (arith, one, rest)
    ] refl own.0 back

pub all_found : (count : ℕ) (steps : List Step) (t : Trace) → Holds count steps t → t.stack ≡ [] → ((p : ℕ) → p < count → state_at t.states p ≡ New → ⊥) → AreAll count steps t.list
all_found count steps t holds empty met ns others =
    let (rank, top, traced, listed) = holds in
    let down = λ (n : ℕ) (s : Step) (is : slice_get steps n ≡ Some s) (from : s.from < count) (to : s.to < count) (none : is_closing t.list n ≡ false). ⊎_elim
    {C = rank s.to < rank s.from}
    (λ closes. absurd (both_ways (is_closing t.list n) none closes))
    (λ old. old.1)
    (traced.done n s is from to (is_finished count steps rank top t traced empty s.from (met s.from from) (state_at t.states s.from) refl)) in
    false_from_ne_true (is_circle steps ns) (no_circle count steps t.list rank down ns others)

pub all_closed : (count : ℕ) (steps : List Step) (t : Trace) → Holds count steps t → AreClosed count steps t.list
all_closed count steps t holds =
    let (rank, top, traced, listed) = holds in
    All-weaker (IsMade count steps t) (IsClosed count steps t.list)
    (λ c made.
    let (ns, own, between, back, size, shown) = made in (
      ns,
      list_all-from_AllPass (is_other count steps t.list) ns (All-weaker (IsOwn count steps t) (λ n. is_other count steps t.list n ≡ true) (λ n is. is.0) ns own),
      between,
      back,
      size,
      shown,
    ))
    t.list listed.made

pub all_listed : (count : ℕ) (steps : List Step) (t : Trace) → Holds count steps t → IsListed count steps t
all_listed count steps t holds = let (rank, top, traced, listed) = holds in listed
