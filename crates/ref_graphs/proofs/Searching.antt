-- Places that steps lead to, and a search for them.
use Rattle.std.proofs.Common.{◌≡◌, ◌∙◌, refl, sym, ap, subst, ℕ, ◌+◌, ◌<◌, ◌≤◌, ◌↔◌, ◌⊎◌, inl, inr, ⊎_elim, Bool, true, false, not, cond, ◌&&◌, ◌==◌, if◌then◌else◌, List, [], ◌∷◌, ◌++◌, length, get_or, set, replicate, Option, Some, None, count_by, arith, eq-eqb, append-nil, map, option_map}
use Rattle.std.specs.Prelude.{slice_get, nat_lt}
use Rattle.std.specs.List.{list_all, Contains}
use Rattle.std.specs.Option.{option_map_or}
use Rattle.std.proofs.lemmas.Bool.{false≢true, both_ways, and_parts, and_from, eqb-true, ltb-true, lt-ltb, cases_eq, cases_lt, cases_Bool}
use Rattle.std.proofs.lemmas.Option.{slice_get_within, slice_get-map, slice_get-get_or, same_Some, none-some}
use Rattle.std.proofs.lemmas.List.{length-set, length-replicate, length_push, get_or-replicate, get_or-set_same, get_or-set_other, get_or_past, get_or_default, get_or_append_left, get_or_push, set_past}
use Rattle.std.proofs.lemmas.List.Elements.{Contains-append_left, Contains-push, Contains-push_cases}
use Rattle.std.proofs.lemmas.List.Folds.{list_all-append}
use Rattle.std.proofs.lemmas.List.Sums.{sum_by-set}
use Rattle.ref_graphs.specs.declared.circles.Step as rust
use Rattle.ref_graphs.specs.Circles.{Step, leads}
use Rattle.ref_graphs.specs.Views.{step_of}
use Rattle.ref_graphs.specs.Reaching.{is_between, IsReached}
use Rattle.ref_graphs.specs.inner.Searching.{from_of, after, AreChains, IsSearch, left, with_waiting}

-- steps that lead to a place, with one that begins there
leads_push : (steps : List Step) (a : ℕ) (ns : List ℕ) (b n : ℕ) (s : Step) → leads steps a ns b ≡ true → slice_get steps n ≡ Some s → s.from ≡ b → leads steps a (ns ++ n ∷ []) s.to ≡ true
leads_push steps a [] b n s led is begins =
    subst (λ o. option_map_or (λ t. t.from == a && (t.to == s.to)) o false ≡ true) (sym is)
    (and_from (s.from == a) (s.to == s.to) (eq-eqb s.from a (begins ∙ sym (eqb-true a b led))) (eq-eqb s.to s.to refl))
leads_push steps a (m ∷ ms) b n s led is begins =
    elim (slice_get steps m) as (λ o. option_map_or (λ t. t.from == a && leads steps t.to ms b) o false ≡ true → option_map_or (λ t. t.from == a && leads steps t.to (ms ++ n ∷ []) s.to) o false ≡ true) [
      | None ↦ λ led. led
      | Some t ↦ λ led.
          let both = and_parts (t.from == a) (leads steps t.to ms b) led in
          and_from (t.from == a) (leads steps t.to (ms ++ n ∷ []) s.to) both.0 (leads_push steps t.to ms b n s both.1 is begins)
    ] led

-- whether a step is between places
pub between_at : (count : ℕ) (steps : List Step) (n : ℕ) (s : Step) → slice_get steps n ≡ Some s → s.from < count → s.to < count → is_between count steps n ≡ true
between_at count steps n s is start ends =
    subst (λ o. option_map_or (λ t. nat_lt t.from count && nat_lt t.to count) o false ≡ true) (sym is)
    (and_from (nat_lt s.from count) (nat_lt s.to count) (lt-ltb s.from count start) (lt-ltb s.to count ends))

-- where a place is reached, so is each that a step leads to from there
pub reached_by : (count : ℕ) (steps : List Step) (n p : ℕ) (s : Step) → slice_get steps n ≡ Some s → s.from ≡ p → p < count → s.to < count → IsReached count steps p → IsReached count steps s.to
reached_by count steps n p s is begins within ends r =
    let both = and_parts (list_all (is_between count steps) r.0) (leads steps 0 r.0 p) r.1 in
    let here : is_between count steps n ≡ true = between_at count steps n s is (omega (arith, begins, within)) ends in
    let all : list_all (is_between count steps) (r.0 ++ n ∷ []) ≡ true =
    list_all-append (is_between count steps) r.0 (n ∷ [])
    ∙ and_from (list_all (is_between count steps) r.0) (is_between count steps n && true) both.0 (and_from (is_between count steps n) true here refl) in
    (r.0 ++ n ∷ [], and_from (list_all (is_between count steps) (r.0 ++ n ∷ [])) (leads steps 0 (r.0 ++ n ∷ []) s.to) all (leads_push steps 0 r.0 p n s both.1 is begins))

-- where each step from a place with a flag leads to one that has one, so do steps after one another
pub led_to : (count : ℕ) (steps : List Step) (flags : List Bool)
    → ((n : ℕ) (s : Step) → slice_get steps n ≡ Some s → get_or flags s.from false ≡ true → s.to < count → get_or flags s.to false ≡ true)
    → (ns : List ℕ) (a b : ℕ) → get_or flags a false ≡ true → list_all (is_between count steps) ns ≡ true → leads steps a ns b ≡ true → get_or flags b false ≡ true
led_to count steps flags closed [] a b flag between led = subst (λ p. get_or flags p false ≡ true) (eqb-true a b led) flag
led_to count steps flags closed (n ∷ ns) a b flag between led =
    let both = and_parts (is_between count steps n) (list_all (is_between count steps) ns) between in
    elim (slice_get steps n) as (λ o. slice_get steps n ≡ o → option_map_or (λ t. nat_lt t.from count && nat_lt t.to count) o false ≡ true → option_map_or (λ t. t.from == a && leads steps t.to ns b) o false ≡ true → get_or flags b false ≡ true) [
      | None ↦ λ is here led. absurd (false≢true here)
      | Some s ↦ λ is here led.
          let on = and_parts (s.from == a) (leads steps s.to ns b) led in
          let ends = and_parts (nat_lt s.from count) (nat_lt s.to count) here in
          let next = closed n s is (subst (λ p. get_or flags p false ≡ true) (sym (eqb-true s.from a on.0)) flag) (ltb-true s.to count ends.1) in
          led_to count steps flags closed ns s.to b next both.1 on.1
    ] refl both.0 led

-- what is at a place of a list of which one place was set
pub set_cases : {X : Type 0} (xs : List X) (i j : ℕ) (v d : X)
    → ((j ≡ i) × (i < length xs) × (get_or (set xs i v) j d ≡ v)) ⊎ (((j ≡ i → ⊥) ⊎ (length xs ≤ i)) × (get_or (set xs i v) j d ≡ get_or xs j d))
set_cases xs i j v d =
    ⊎_elim
    (λ same. ⊎_elim
    (λ within. inl (same, within, ap (λ k. get_or (set xs i v) k d) same ∙ get_or-set_same xs i v d within))
    (λ past. inr (inr past, ap (λ l. get_or l j d) (set_past xs i v past)))
    (cases_lt i (length xs)))
    (λ other. inr (inl other, get_or-set_other xs i j v d other))
    (cases_eq j i)

below_other : (j k : ℕ) → (j ≡ k → ⊥) → k ≤ j → k < j
below_other j k other past = omega arith

-- what is at a place of a list with one more
push_cases : {X : Type 0} (xs : List X) (y d : X) (j k : ℕ) → length xs ≡ k
    → ((j ≡ k) × (get_or (xs ++ y ∷ []) j d ≡ y)) ⊎ (((j < k) × (get_or (xs ++ y ∷ []) j d ≡ get_or xs j d)) ⊎ ((k < j) × (get_or (xs ++ y ∷ []) j d ≡ d)))
push_cases xs y d j k long =
    ⊎_elim
    (λ same. inl (same, get_or_push xs y d j (long ∙ sym same)))
    (λ other. ⊎_elim
    (λ less. let within : j < length xs = omega arith in inr (inl (less, get_or_append_left xs (y ∷ []) d j within)))
    (λ past.
    let more : k < j = below_other j k other past in
    inr (inr (more, get_or_past (xs ++ y ∷ []) j d (omega (arith, length_push xs y, more, long)))))
    (cases_lt j k))
    (cases_eq j k)

chains_with : (from : ℕ → ℕ) (count k p : ℕ) (last before : List (Option ℕ)) → AreChains from count k last before → from k ≡ p
    → AreChains from count (k + 1) (set last p (Some k)) (before ++ get_or last p None ∷ [])
chains_with from count k p last before chains at = record {
  places = length-set last p (Some k) ∙ chains.places;
  numbers = length_push before (get_or last p None) ∙ ap (λ n. n + 1) chains.numbers;
  is_last = λ n less within. ⊎_elim
      (λ here. subst (λ o. n < after o) (sym here.2) (omega arith))
      (λ apart.
      let before_k : n < k = ⊎_elim
      (λ same. ⊎_elim
      (λ other. absurd (other (ap from same ∙ at)))
      (λ past. absurd (omega (arith, ap from same, at, chains.places)))
      apart.0)
      (λ other. omega arith)
      (cases_eq n k) in
      subst (λ o. n < after o) (sym apart.1) (chains.is_last n before_k within))
      (set_cases last p (from n) (Some k) None);
  begins = λ place n is. ⊎_elim
      (λ here.
      let same : k ≡ n = same_Some k n (sym here.2 ∙ is) in
      (omega arith, sym (ap from same) ∙ at ∙ sym here.0))
      (λ apart. let old = chains.begins place n (sym apart.1 ∙ is) in (omega (arith, old.0), old.1))
      (set_cases last p place (Some k) None);
  none_between = λ n m less below within same. ⊎_elim
      (λ here.
      let begins_there : from m ≡ p = same ∙ ap from here.0 ∙ at in
      let old = chains.is_last m (omega (arith, here.0)) (omega (arith, same)) in
      subst (λ o. m < after o) (sym here.1) (subst (λ q. m < after (get_or last q None)) begins_there old))
      (λ other. ⊎_elim
      (λ there. subst (λ o. m < after o) (sym there.1) (chains.none_between n m less there.0 within same))
      (λ past. absurd (omega (arith, past.0, below)))
      other)
      (push_cases before (get_or last p None) None n k chains.numbers);
  is_before = λ n m is. ⊎_elim
      (λ here.
      let old = chains.begins p m (sym here.1 ∙ is) in
      (omega (arith, old.0, here.0), old.1 ∙ sym at ∙ sym (ap from here.0)))
      (λ other. ⊎_elim
      (λ there. chains.is_before n m (sym there.1 ∙ is))
      (λ past. absurd (none-some m (sym past.1 ∙ is)))
      other)
      (push_cases before (get_or last p None) None n k chains.numbers);
}

pub step_at : (xs : List rust.Step) (n : ℕ) (d : rust.Step) → n < length xs → slice_get (map step_of xs) n ≡ Some (step_of (get_or xs n d))
step_at xs n d within = slice_get-map step_of xs n ∙ ap (option_map step_of) (slice_get-get_or xs n d within)

-- chains, with the next step
pub chains_more : (from : ℕ → ℕ) (count k p : ℕ) (last before new more : List (Option ℕ)) → AreChains from count k last before → from k ≡ p
    → new ≡ set last p (Some k) → more ≡ before ++ get_or last p None ∷ [] → AreChains from count (k + 1) new more
chains_more from count k p last before new more chains at is_new is_more =
    subst (λ l. AreChains from count (k + 1) l more) (sym is_new)
    (subst (λ b. AreChains from count (k + 1) (set last p (Some k)) b) (sym is_more) (chains_with from count k p last before chains at))

-- a place with a flag
pub flag_within : (flags : List Bool) (p : ℕ) → get_or flags p false ≡ true → p < length flags
flag_within flags p flag =
    ⊎_elim (λ within. within) (λ past. absurd (both_ways (get_or flags p false) (get_or_past flags p false past) flag)) (cases_lt p (length flags))

-- a place without one
none_within : (flags : List Bool) (p : ℕ) → get_or flags p true ≡ false → p < length flags
none_within flags p none =
    ⊎_elim (λ within. within) (λ past. absurd (both_ways (get_or flags p true) none (get_or_past flags p true past))) (cases_lt p (length flags))

flag_kept : (flags : List Bool) (q p : ℕ) → get_or flags p false ≡ true → get_or (set flags q true) p false ≡ true
flag_kept flags q p flag = ⊎_elim (λ here. here.2) (λ other. other.1 ∙ flag) (set_cases flags q p true false)

flag_new : (flags : List Bool) (q p : ℕ) → get_or (set flags q true) p false ≡ true → (get_or flags p false ≡ true) ⊎ ((p ≡ q) × (q < length flags))
flag_new flags q p flag = ⊎_elim (λ here. inr (here.0, here.1)) (λ other. inl (sym other.1 ∙ flag)) (set_cases flags q p true false)

flag_set : (flags : List Bool) (q : ℕ) → q < length flags → get_or (set flags q true) q false ≡ true
flag_set flags q within = get_or-set_same flags q true false within

still_waits : (flags : List Bool) (waiting : List ℕ) (q p : ℕ) → Contains waiting p → Contains (with_waiting flags waiting q) p
still_waits flags waiting q p waits = Contains-append_left waiting (if get_or flags q true then [] else q ∷ []) p waits

waits_now : (flags : List Bool) (waiting : List ℕ) (q : ℕ) → get_or flags q true ≡ false → Contains (with_waiting flags waiting q) q
waits_now flags waiting q none =
    subst (λ b. Contains (waiting ++ (if b then [] else q ∷ [])) q) (sym none) (Contains-push waiting q)

waits_new : (flags : List Bool) (waiting : List ℕ) (q p : ℕ) → Contains (with_waiting flags waiting q) p → Contains waiting p ⊎ ((q ≡ p) × (get_or flags q true ≡ false))
waits_new flags waiting q p waits =
    elim (get_or flags q true) as (λ b. get_or flags q true ≡ b → Contains (waiting ++ (if b then [] else q ∷ [])) p → Contains waiting p ⊎ ((q ≡ p) × (get_or flags q true ≡ false))) [
      | true ↦ λ is waits. inl (subst (λ l. Contains l p) (append-nil waiting) waits)
      | false ↦ λ is waits. ⊎_elim (λ old. inl old) (λ same. inr (same, is)) (Contains-push_cases waiting q p waits)
    ] refl waits

search_with : (count : ℕ) (steps : List Step) (place end more : ℕ) (flags : List Bool) (waiting : List ℕ) (q : ℕ) → IsSearch count steps place end flags waiting
    → (q < count → IsReached count steps q)
    → ((n : ℕ) (s : Step) → slice_get steps n ≡ Some s → s.from ≡ place → s.from < count → n < end → (s.to ≡ q) ⊎ (n < more))
    → IsSearch count steps place more (set flags q true) (with_waiting flags waiting q)
search_with count steps place end more flags waiting q search reached fewer = record {
  places = length-set flags q true ∙ search.places;
  first = λ some. flag_kept flags q 0 (search.first some);
  are_reached = λ p flag. ⊎_elim
      (λ old. search.are_reached p old)
      (λ new. subst (λ r. IsReached count steps r) (sym new.0) (reached (omega (arith, new.1, search.places))))
      (flag_new flags q p flag);
  wait = λ p waits. ⊎_elim
      (λ old. flag_kept flags q p (search.wait p old))
      (λ new. subst (λ r. get_or (set flags q true) r false ≡ true) new.0 (flag_set flags q (none_within flags q new.1)))
      (waits_new flags waiting q p waits);
  lead = λ n s is flag within.
      let from_old = λ (old : get_or flags s.from false ≡ true). ⊎_elim
      {C = (get_or (set flags q true) s.to false ≡ true) ⊎ (Contains (with_waiting flags waiting q) s.from ⊎ ((s.from ≡ place) × (n < more)))}
      (λ ends. inl (flag_kept flags q s.to ends))
      (λ other. ⊎_elim
      (λ waits. inr (inl (still_waits flags waiting q s.from waits)))
      (λ here. ⊎_elim
      (λ same. inl (subst (λ r. get_or (set flags q true) r false ≡ true) (sym same) (flag_set flags q (omega (arith, same, within, search.places)))))
      (λ less. inr (inr (here.0, less)))
      (fewer n s is here.0 (omega (arith, flag_within flags s.from old, search.places)) here.1))
      other)
      (search.lead n s is old within) in
      ⊎_elim
      from_old
      (λ new. ⊎_elim
      (λ had. from_old (ap (λ r. get_or flags r false) new.0 ∙ get_or_default flags q false true new.1 ∙ had))
      (λ none. inr (inl (subst (λ r. Contains (with_waiting flags waiting q) r) (sym new.0) (waits_now flags waiting q none))))
      (cases_Bool (get_or flags q true)))
      (flag_new flags q s.from flag);
}

-- a search, where a place was reached
pub search_more : (count : ℕ) (steps : List Step) (place end more : ℕ) (flags new : List Bool) (waiting rest : List ℕ) (q : ℕ) → IsSearch count steps place end flags waiting
    → (q < count → IsReached count steps q)
    → ((n : ℕ) (s : Step) → slice_get steps n ≡ Some s → s.from ≡ place → s.from < count → n < end → (s.to ≡ q) ⊎ (n < more))
    → new ≡ set flags q true → rest ≡ with_waiting flags waiting q → IsSearch count steps place more new rest
search_more count steps place end more flags new waiting rest q search reached fewer is_new is_rest =
    subst (λ f. IsSearch count steps place more f rest) (sym is_new)
    (subst (λ w. IsSearch count steps place more (set flags q true) w) (sym is_rest) (search_with count steps place end more flags waiting q search reached fewer))

left_with : (flags : List Bool) (waiting : List ℕ) (q : ℕ) → left (set flags q true) (with_waiting flags waiting q) ≡ left flags waiting
left_with flags waiting q =
    let one : Bool → ℕ = λ b. cond (not b) 1 0 in
    elim (get_or flags q true) as (λ b. get_or flags q true ≡ b → count_by not (set flags q true) + length (waiting ++ (if b then [] else q ∷ [])) ≡ count_by not flags + length waiting) [
      | true ↦ λ had. ⊎_elim
          (λ within.
          let sums = sum_by-set one flags q true true within in
          let there : one (get_or flags q true) ≡ 0 = ap one had in
          omega (arith, sums, there, ap length (append-nil waiting)))
          (λ past. ap (λ f. count_by not f + length (waiting ++ [])) (set_past flags q true past) ∙ ap (λ w. count_by not flags + length w) (append-nil waiting))
          (cases_lt q (length flags))
      | false ↦ λ none.
          let sums = sum_by-set one flags q true true (none_within flags q none) in
          let there : one (get_or flags q true) ≡ 1 = ap one none in
          omega (arith, sums, there, length_push waiting q)
    ] refl

-- no more places are left
pub left_same : (flags new : List Bool) (waiting rest : List ℕ) (q : ℕ) → new ≡ set flags q true → rest ≡ with_waiting flags waiting q → left new rest ≡ left flags waiting
left_same flags new waiting rest q is_new is_rest =
    ap (λ f. left f rest) is_new ∙ ap (λ w. left (set flags q true) w) is_rest ∙ left_with flags waiting q

-- a search, where the steps of a place that waited are to be passed
pub search_at : (count : ℕ) (steps : List Step) (a : ℕ) (flags : List Bool) (waiting rest : List ℕ) (place : ℕ) → IsSearch count steps a 0 flags waiting
    → waiting ≡ rest ++ place ∷ [] → IsSearch count steps place (length steps) flags rest
search_at count steps a flags waiting rest place search is = record {
  places = search.places;
  first = search.first;
  are_reached = search.are_reached;
  wait = λ p waits. search.wait p (subst (λ l. Contains l p) (sym is) (Contains-append_left rest (place ∷ []) p waits));
  lead = λ n s there flag within. ⊎_elim
      (λ ends. inl ends)
      (λ other. ⊎_elim
      (λ waits. ⊎_elim
      (λ old. inr (inl old))
      (λ same. inr (inr (sym same, slice_get_within steps n s there)))
      (Contains-push_cases rest place s.from (subst (λ l. Contains l s.from) is waits)))
      (λ none. absurd (omega (arith, none.1)))
      other)
      (search.lead n s there flag within);
}

-- and that place has a flag
pub waited : (count : ℕ) (steps : List Step) (a end : ℕ) (flags : List Bool) (waiting rest : List ℕ) (place : ℕ) → IsSearch count steps a end flags waiting
    → waiting ≡ rest ++ place ∷ [] → get_or flags place false ≡ true
waited count steps a end flags waiting rest place search is = search.wait place (subst (λ l. Contains l place) (sym is) (Contains-push rest place))

-- a search, where fewer steps of a place are to be passed
pub search_fewer : (count : ℕ) (steps : List Step) (place end more : ℕ) (flags : List Bool) (waiting : List ℕ) → IsSearch count steps place end flags waiting
    → ((n : ℕ) (s : Step) → slice_get steps n ≡ Some s → s.from ≡ place → s.from < count → n < more)
    → IsSearch count steps place more flags waiting
search_fewer count steps place end more flags waiting search fewer = record {
  places = search.places;
  first = search.first;
  are_reached = search.are_reached;
  wait = search.wait;
  lead = λ n s is flag within. ⊎_elim
      (λ ends. inl ends)
      (λ other. ⊎_elim
      (λ waits. inr (inl waits))
      (λ here. inr (inr (here.0, fewer n s is here.0 (omega (arith, flag_within flags s.from flag, search.places)))))
      other)
      (search.lead n s is flag within);
}

-- a search, where none of them is
pub search_done : (count : ℕ) (steps : List Step) (place : ℕ) (flags : List Bool) (waiting : List ℕ) → IsSearch count steps place 0 flags waiting → IsSearch count steps 0 0 flags waiting
search_done count steps place flags waiting search = record {
  places = search.places;
  first = search.first;
  are_reached = search.are_reached;
  wait = search.wait;
  lead = λ n s is flag within. ⊎_elim
      (λ ends. inl ends)
      (λ other. ⊎_elim (λ waits. inr (inl waits)) (λ none. absurd (omega (arith, none.1))) other)
      (search.lead n s is flag within);
}

none_yet : (count p : ℕ) → get_or (replicate count false) p false ≡ true → ⊥
none_yet count p flag =
    ⊎_elim
    (λ within. both_ways (get_or (replicate count false) p false) (get_or-replicate count p false false within) flag)
    (λ past. both_ways (get_or (replicate count false) p false) (get_or_past (replicate count false) p false (omega (arith, length-replicate count false))) flag)
    (cases_lt p count)

start : (count : ℕ) (steps : List Step) → IsSearch count steps 0 0 (set (replicate count false) 0 true) (with_waiting (replicate count false) [] 0)
start count steps =
    let none = replicate count false in
    let long : length none ≡ count = length-replicate count false in
    record {
      places = length-set none 0 true ∙ long;
      first = λ some. flag_set none 0 (omega (arith, long));
      are_reached = λ p flag. ⊎_elim
          (λ old. absurd (none_yet count p old))
          (λ new. subst (λ r. IsReached count steps r) (sym new.0) ([], refl))
          (flag_new none 0 p flag);
      wait = λ p waits. ⊎_elim
          (λ old. absurd (omega (arith, old.1)))
          (λ new. subst (λ r. get_or (set none 0 true) r false ≡ true) new.0 (flag_set none 0 (none_within none 0 new.1)))
          (waits_new none [] 0 p waits);
      lead = λ n s is flag within. ⊎_elim
          (λ old. absurd (none_yet count s.from old))
          (λ new.
          let some : 0 < count = omega (arith, new.1, long) in
          inr (inl (subst (λ r. Contains (with_waiting none [] 0) r) (sym new.0) (waits_now none [] 0 (get_or-replicate count 0 false true some)))))
          (flag_new none 0 s.from flag);
    }

-- a search that begins
pub search_start : (count : ℕ) (steps : List Step) (none flags : List Bool) (empty waiting : List ℕ) → none ≡ replicate count false → empty ≡ []
    → flags ≡ set none 0 true → waiting ≡ with_waiting none empty 0 → IsSearch count steps 0 0 flags waiting
search_start count steps none flags empty waiting is_none is_empty is_flags is_waiting =
    subst (λ f. IsSearch count steps 0 0 f waiting) (sym (is_flags ∙ ap (λ l. set l 0 true) is_none))
    (subst (λ w. IsSearch count steps 0 0 (set (replicate count false) 0 true) w) (sym (is_waiting ∙ ap (λ l. with_waiting l empty 0) is_none ∙ ap (λ l. with_waiting (replicate count false) l 0) is_empty)) (start count steps))

-- a search that ends
pub search_end : (count : ℕ) (steps : List Step) (place : ℕ) (flags : List Bool) (waiting : List ℕ) → IsSearch count steps 0 0 flags waiting → waiting ≡ [] → place < count
    → (get_or flags place false ≡ true) ↔ IsReached count steps place
search_end count steps place flags waiting search empty within =
    let closed = λ (n : ℕ) (s : Step) (is : slice_get steps n ≡ Some s) (flag : get_or flags s.from false ≡ true) (ends : s.to < count). ⊎_elim
    {C = get_or flags s.to false ≡ true}
    (λ old. old)
    (λ other. ⊎_elim
    (λ waits. absurd (omega (arith, waits.1, ap length empty)))
    (λ none. absurd (omega (arith, none.1)))
    other)
    (search.lead n s is flag ends) in (
      search.are_reached place,
      λ r.
          let both = and_parts (list_all (is_between count steps) r.0) (leads steps 0 r.0 place) r.1 in
          led_to count steps flags closed r.0 0 place (search.first (omega (arith, within))) both.0 both.1,
    )

nothing_at : (count p : ℕ) → ◌≡◌ {A = Option ℕ} (get_or (replicate count None) p None) None
nothing_at count p =
    ⊎_elim
    (λ within. get_or-replicate count p None None within)
    (λ past. get_or_past (replicate count None) p None (omega (arith, length-replicate {A = Option ℕ} count None)))
    (cases_lt p count)

no_chains : (from : ℕ → ℕ) (count : ℕ) → AreChains from count 0 (replicate count None) []
no_chains from count = record {
  places = length-replicate {A = Option ℕ} count None;
  numbers = refl;
  is_last = λ n less within. absurd (omega arith);
  begins = λ place n is. absurd (none-some n (sym (nothing_at count place) ∙ is));
  none_between = λ n m less below within same. absurd (omega arith);
  is_before = λ n m is. absurd (none-some m is);
}

-- chains of no steps
pub chains_none : (from : ℕ → ℕ) (count : ℕ) (last before : List (Option ℕ)) → last ≡ replicate count None → before ≡ [] → AreChains from count 0 last before
chains_none from count last before is_last is_before =
    subst (λ l. AreChains from count 0 l before) (sym is_last) (subst (λ b. AreChains from count 0 (replicate count None) b) (sym is_before) (no_chains from count))

-- where a step of the program begins, and ends
pub from_at : (xs : List rust.Step) (n : ℕ) (d : rust.Step) → n < length xs → from_of (map step_of xs) n ≡ (get_or xs n d).from
from_at xs n d within = ap (λ o. option_map_or (λ (s : Step). s.from) o 0) (step_at xs n d within)

-- the steps of a chain that are left after one
pub chain_here : (steps : List Step) (count total : ℕ) (last before : List (Option ℕ)) (place n : ℕ) (at next : Option ℕ) → AreChains (from_of steps) count total last before
    → at ≡ Some n → n < total → from_of steps n ≡ place → next ≡ get_or before n None
    → (m : ℕ) (t : Step) → slice_get steps m ≡ Some t → t.from ≡ place → t.from < count → m < after at → (m ≡ n) ⊎ (m < after next)
chain_here steps count total last before place n at next chains at_n less begins is_next m t there same within among =
    let up_to : m < n + 1 = subst (λ o. m < after o) at_n among in
    let from_m : from_of steps m ≡ place = ap (λ o. option_map_or (λ (s : Step). s.from) o 0) there ∙ same in
    ⊎_elim
    (λ here. inl here)
    (λ other. inr (subst (λ o. m < after o) (sym is_next) (chains.none_between n m (omega arith) less (omega (arith, begins, same, within)) (from_m ∙ sym begins))))
    (cases_eq m n)

pub chain_on : (steps : List Step) (count total : ℕ) (last before : List (Option ℕ)) (place n : ℕ) (s : Step) (at next : Option ℕ) → AreChains (from_of steps) count total last before
    → at ≡ Some n → slice_get steps n ≡ Some s → n < total → from_of steps n ≡ place → next ≡ get_or before n None
    → (m : ℕ) (t : Step) → slice_get steps m ≡ Some t → t.from ≡ place → t.from < count → m < after at → (t.to ≡ s.to) ⊎ (m < after next)
chain_on steps count total last before place n s at next chains at_n is less begins is_next m t there same within among =
    ⊎_elim
    (λ here. inl (ap (λ (s : Step). s.to) (same_Some t s (sym there ∙ ap (slice_get steps) here ∙ is))))
    (λ other. inr other)
    (chain_here steps count total last before place n at next chains at_n less begins is_next m t there same within among)

-- a step before one of a place, in its chain
pub chain_begins : (steps : List Step) (count total : ℕ) (last before : List (Option ℕ)) (place n : ℕ) (next : Option ℕ) → AreChains (from_of steps) count total last before
    → n < total → from_of steps n ≡ place → next ≡ get_or before n None → (m : ℕ) → next ≡ Some m → (m < total) × (from_of steps m ≡ place)
chain_begins steps count total last before place n next chains less begins is_next m is =
    let old = chains.is_before n m (sym is_next ∙ is) in
    (omega (arith, old.0, less), old.1 ∙ begins)

-- is an earlier one
pub chain_falls : (from : ℕ → ℕ) (count total : ℕ) (last before : List (Option ℕ)) (n : ℕ) (at next : Option ℕ) → AreChains from count total last before
    → at ≡ Some n → next ≡ get_or before n None → after next < after at
chain_falls from count total last before n at next chains at_n is_next =
    subst (λ o. after next < after o) (sym at_n)
    (elim next as (λ o. o ≡ get_or before n None → after o < n + 1) [
      | None ↦ λ is. omega arith
      | Some m ↦ λ is. let old = chains.is_before n m (sym is) in omega (arith, old.0)
    ] is_next)

-- the steps of a chain
pub chain_first : (steps : List Step) (count total : ℕ) (last before : List (Option ℕ)) (place : ℕ) (at : Option ℕ) → AreChains (from_of steps) count total last before
    → length steps ≡ total → at ≡ get_or last place None → (n : ℕ) (s : Step) → slice_get steps n ≡ Some s → s.from ≡ place → s.from < count → n < after at
chain_first steps count total last before place at chains long is_at n s there same within =
    let from_n : from_of steps n ≡ place = ap (λ o. option_map_or (λ (s : Step). s.from) o 0) there ∙ same in
    let old = chains.is_last n (omega (arith, slice_get_within steps n s there, long)) (omega (arith, from_n, same, within)) in
    subst (λ o. n < after o) (sym is_at) (subst (λ q. n < after (get_or last q None)) from_n old)
