-- References whose steps come back.
use Rattle.std.proofs.Common.{◌≡◌, ◌∙◌, refl, sym, ap, subst, ℕ, suc, zero, ◌+◌, ◌-◌, ◌<◌, inl, inr, ⊎_elim, Bool, true, false, not, ◌&&◌, ◌==◌, List, [], ◌∷◌, ◌++◌, length, map, get_or, Some, None, arith, eq-eqb}
use Rattle.std.specs.Prelude.{slice_get, nat_lt}
use Rattle.std.specs.List.{list_all, list_any, sum_by}
use Rattle.std.specs.Option.{option_map_or}
use Rattle.std.proofs.lemmas.Bool.{false≢true, both_ways, and_parts, and_from, or_cases, or_left, or_right, not-true, not_from_false, eqb-true, ltb-true, cases_lt, false_from_ne_true}
use Rattle.std.proofs.lemmas.Option.{same_Some, none-some}
use Rattle.std.proofs.lemmas.List.{length-map, map-append, length_push, nil_from_length, get_or-append-add, get_or_append_left}
use Rattle.std.proofs.lemmas.List.Elements.{All-weaker, All-map}
use Rattle.std.proofs.lemmas.List.Folds.{list_all-append}
use Rattle.std.proofs.lemmas.List.Sums.{sum_by-cons}
use Rattle.ref_graphs.specs.Circles.{Step, leads, is_circle}
use Rattle.ref_graphs.specs.Reaching.{is_between}
use Rattle.ref_graphs.specs.Closing as closing
use Rattle.ref_graphs.specs.Rounds.{Lead, Round, comes, leads_on, IsClosed, AreClosed, is_other, AreAll, AreShown}
use Rattle.ref_graphs.specs.inner.Rounds.{step_to, steps_at, steps_of, numbers_at, numbers_from, by_of, round_at}
use Rattle.ref_graphs.proofs.Searching.{between_at}
use Rattle.ref_graphs.proofs.Circling.{nth_left, circle_from}

-- whether the same value comes to a reference from a place, wherever that is
abbrev has_front : Lead → ℕ → Bool
has_front l p = list_any (λ f. f == p) l.fronts

nth_right : {X : Type 0} (xs ys : List X) (k : ℕ) → slice_get (xs ++ ys) (length xs + k) ≡ slice_get ys k
nth_right [] ys k = let e : 0 + k ≡ k = omega arith in ap (slice_get ys) e
nth_right (x ∷ xs) ys k = let e : suc (length xs) + k ≡ suc (length xs + k) = omega arith in ap (slice_get (x ∷ (xs ++ ys))) e ∙ nth_right xs ys k

-- ---- the steps of references

front_at : (fs : List ℕ) (to k : ℕ) (s : Step) → slice_get (map (step_to to) fs) k ≡ Some s → (s.to ≡ to) × (list_any (λ f. f == s.from) fs ≡ true)
front_at [] to k s is = absurd (none-some s is)
front_at (f ∷ fs) to zero s is =
    let same : step_to to f ≡ s = same_Some (step_to to f) s is in
    (sym (ap (λ (t : Step). t.to) same), or_left (f == s.from) (list_any (λ g. g == s.from) fs) (eq-eqb f s.from (ap (λ (t : Step). t.from) same)))
front_at (f ∷ fs) to (suc k) s is =
    let rest = front_at fs to k s is in
    (rest.0, or_right (f == s.from) (list_any (λ g. g == s.from) fs) rest.1)

number_at : (fs : List ℕ) (n k : ℕ) → k < length fs → get_or (map (λ f. n) fs) k 0 ≡ n
number_at [] n k within = absurd (omega arith)
number_at (f ∷ fs) n zero within = refl
number_at (f ∷ fs) n (suc k) within = number_at fs n k (omega arith)

same_length : (n : ℕ) (l : Lead) → length (steps_at l) ≡ length (numbers_at n l)
same_length n l = length-map l.fronts (step_to l.to) ∙ sym (length-map l.fronts (λ f. n))

-- where a step is from, and its number
abbrev IsStepOf : List Lead → ℕ → ℕ → Step → Type 0
IsStepOf ls n k s =
    (m : ℕ) × (l : Lead) × (slice_get ls m ≡ Some l) × (by_of (numbers_from n ls) k ≡ n + m) × (s.to ≡ l.to) × (has_front l s.from ≡ true)

step_each : (ls : List Lead) (n k : ℕ) (s : Step) → slice_get (steps_of ls) k ≡ Some s → IsStepOf ls n k s
step_each [] n k s is = absurd (none-some s is)
step_each (l ∷ ls) n k s is =
    let here = steps_at l in
    let own = numbers_at n l in
    let long = same_length n l in
    let fronts : length own ≡ length l.fronts = length-map l.fronts (λ f. n) in
    let first : n ≡ n + 0 = omega arith in
    ⊎_elim
    {C = IsStepOf (l ∷ ls) n k s}
    (λ inner.
    let found = front_at l.fronts l.to k s (sym (nth_left here (steps_of ls) k inner) ∙ is) in (
      0,
      l,
      refl,
      get_or_append_left own (numbers_from (n + 1) ls) 0 k (omega (arith, inner, long)) ∙ number_at l.fronts n k (omega (arith, inner, long, fronts)) ∙ first,
      found.0,
      found.1,
    ))
    (λ past.
    let j = k - length here in
    let e : length here + j ≡ k = omega (arith, past) in
    let other : length own + j ≡ k = omega (arith, past, long) in
    let (m, lead, there, by, to, front) = step_each ls (n + 1) j s (sym (nth_right here (steps_of ls) j) ∙ ap (slice_get (here ++ steps_of ls)) e ∙ is) in
    let later : (n + 1) + m ≡ n + suc m = omega arith in (
      suc m,
      lead,
      there,
      ap (λ i. get_or (own ++ numbers_from (n + 1) ls) i 0) (sym other) ∙ get_or-append-add own (numbers_from (n + 1) ls) j 0 ∙ by ∙ later,
      to,
      front,
    ))
    (cases_lt k (length here))

front_find : (fs : List ℕ) (to p : ℕ) → list_any (λ f. f == p) fs ≡ true → (k : ℕ) × (k < length fs) × (slice_get (map (step_to to) fs) k ≡ Some (step_to to p))
front_find [] to p any = absurd (false≢true any)
front_find (f ∷ fs) to p any =
    ⊎_elim
    {C = (k : ℕ) × (k < length (f ∷ fs)) × (slice_get (map (step_to to) (f ∷ fs)) k ≡ Some (step_to to p))}
    (λ here. (zero, omega arith, ap (λ q. Some (step_to to q)) (eqb-true f p here)))
    (λ later.
    let (k, within, at) = front_find fs to p later in
    (suc k, omega (arith, within), at))
    (or_cases (f == p) (list_any (λ g. g == p) fs) any)

step_all : (ls : List Lead) (n m : ℕ) (l : Lead) (p : ℕ) → slice_get ls m ≡ Some l → has_front l p ≡ true
    → (k : ℕ) × (slice_get (steps_of ls) k ≡ Some (step_to l.to p)) × (by_of (numbers_from n ls) k ≡ n + m)
step_all [] n m l p is front = absurd (none-some l is)
step_all (h ∷ ls) n zero l p is front =
    let same : h ≡ l = same_Some h l is in
    let (k, within, at) = front_find h.fronts h.to p (subst (λ (g : Lead). has_front g p ≡ true) (sym same) front) in
    let steps : length (steps_at h) ≡ length h.fronts = length-map h.fronts (step_to h.to) in
    let numbers : length (numbers_at n h) ≡ length h.fronts = length-map h.fronts (λ f. n) in
    let first : n ≡ n + 0 = omega arith in (
      k,
      nth_left (steps_at h) (steps_of ls) k (omega (arith, within, steps)) ∙ at ∙ ap (λ (g : Lead). Some (step_to g.to p)) same,
      get_or_append_left (numbers_at n h) (numbers_from (n + 1) ls) 0 k (omega (arith, within, numbers)) ∙ number_at h.fronts n k within ∙ first,
    )
step_all (h ∷ ls) n (suc m) l p is front =
    let (k, at, by) = step_all ls (n + 1) m l p is front in
    let later : (n + 1) + m ≡ n + suc m = omega arith in (
      length (steps_at h) + k,
      nth_right (steps_at h) (steps_of ls) k ∙ at,
      ap (λ i. get_or (numbers_at n h ++ numbers_from (n + 1) ls) (i + k) 0) (same_length n h) ∙ get_or-append-add (numbers_at n h) (numbers_from (n + 1) ls) k 0 ∙ by ∙ later,
    )

-- ---- circles of steps are rounds

on_leads : (count : ℕ) (ls : List Lead) (ks : List ℕ) (a b : ℕ) → list_all (is_between count (steps_of ls)) ks ≡ true → leads (steps_of ls) a ks b ≡ true
    → leads_on count ls a (map (by_of (numbers_from 0 ls)) ks) b ≡ true
on_leads count ls [] a b between led = led
on_leads count ls (k ∷ ks) a b between led =
    let S = steps_of ls in
    let by = by_of (numbers_from 0 ls) in
    let both = and_parts (is_between count S k) (list_all (is_between count S) ks) between in
    elim (slice_get S k) as (λ o. slice_get S k ≡ o → option_map_or (λ t. nat_lt t.from count && nat_lt t.to count) o false ≡ true → option_map_or (λ t. t.from == a && leads S t.to ks b) o false ≡ true → leads_on count ls a (by k ∷ map by ks) b ≡ true) [
      | None ↦ λ is here led. absurd (false≢true here)
      | Some s ↦ λ is here led.
          let on = and_parts (s.from == a) (leads S s.to ks b) led in
          let ends = and_parts (nat_lt s.from count) (nat_lt s.to count) here in
          let at : s.from ≡ a = eqb-true s.from a on.0 in
          let (m, l, found, number, to, front) = step_each ls 0 k s is in
          let first : 0 + m ≡ m = omega arith in
          let there : slice_get ls (by k) ≡ Some l = ap (slice_get ls) (number ∙ first) ∙ found in
          let comes_here : comes count l a ≡ true = and_from (nat_lt a count) (nat_lt l.to count && has_front l a) (subst (λ p. nat_lt p count ≡ true) at ends.0)
          (and_from (nat_lt l.to count) (has_front l a) (subst (λ p. nat_lt p count ≡ true) to ends.1) (subst (λ p. has_front l p ≡ true) at front)) in
          let rest = on_leads count ls ks s.to b both.1 on.1 in
          subst (λ o. option_map_or (λ g. comes count g a && leads_on count ls g.to (map by ks) b) o false ≡ true) (sym there)
          (and_from (comes count l a) (leads_on count ls l.to (map by ks) b) comes_here (subst (λ p. leads_on count ls p (map by ks) b ≡ true) to rest))
    ] refl both.0 led

circle_led : (steps : List Step) (ns : List ℕ) → is_circle steps ns ≡ true → (p : ℕ) × (leads steps p ns p ≡ true) × (0 < length ns)
circle_led steps [] back = absurd (false≢true back)
circle_led steps (n ∷ ns) back =
    elim (slice_get steps n) as (λ o. slice_get steps n ≡ o → option_map_or (λ t. leads steps t.to ns t.from) o false ≡ true → (p : ℕ) × (leads steps p (n ∷ ns) p ≡ true) × (0 < length (n ∷ ns))) [
      | None ↦ λ is led. absurd (false≢true led)
      | Some s ↦ λ is led. (
        s.from,
        subst (λ o. option_map_or (λ t. t.from == s.from && leads steps t.to ns s.from) o false ≡ true) (sym is)
            (and_from (s.from == s.from) (leads steps s.to ns s.from) (eq-eqb s.from s.from refl) led),
        omega arith,
      )
    ] refl back

others_between : (count : ℕ) (steps : List Step) (circles : List closing.Circle) (ns : List ℕ) → list_all (closing.is_other count steps circles) ns ≡ true → list_all (is_between count steps) ns ≡ true
others_between count steps circles [] others = refl
others_between count steps circles (n ∷ ns) others =
    let both = and_parts (closing.is_other count steps circles n) (list_all (closing.is_other count steps circles) ns) others in
    and_from (is_between count steps n) (list_all (is_between count steps) ns) (and_parts (is_between count steps n) (not (closing.is_closing circles n)) both.0).0 (others_between count steps circles ns both.1)

closed_round : (count : ℕ) (ls : List Lead) (circles : List closing.Circle) (c : closing.Circle) → closing.IsClosed count (steps_of ls) circles c → IsClosed count ls (round_at (numbers_from 0 ls) c)
closed_round count ls circles c closed =
    let S = steps_of ls in
    let by = by_of (numbers_from 0 ls) in
    let (ns, others, between, back, size, shown) = closed in
    let all : list_all (is_between count S) (ns ++ c.closing ∷ []) ≡ true = list_all-append (is_between count S) ns (c.closing ∷ [])
    ∙ and_from (list_all (is_between count S) ns) (is_between count S c.closing && true) (others_between count S circles ns others) (and_from (is_between count S c.closing) true between refl) in
    let (p, led, some) = circle_led S (ns ++ c.closing ∷ []) back in
    let split : map by (ns ++ c.closing ∷ []) ≡ map by ns ++ by c.closing ∷ [] = map-append by ns (c.closing ∷ []) in (
      map by ns,
      (p, subst (λ ms. leads_on count ls p ms p ≡ true) split (on_leads count ls (ns ++ c.closing ∷ []) p p all led), omega (arith, length_push (map by ns) (by c.closing))),
      omega (arith, length-map ns by, size),
      ⊎_elim (λ none. inl (ap (map by) none)) (λ whole. inr (ap (map by) whole ∙ split)) shown,
    )

pub closed_rounds : (count : ℕ) (ls : List Lead) (circles : List closing.Circle) → closing.AreClosed count (steps_of ls) circles → AreClosed count ls (map (round_at (numbers_from 0 ls)) circles)
closed_rounds count ls circles closed =
    All-map (IsClosed count ls) (round_at (numbers_from 0 ls)) circles
    (All-weaker (closing.IsClosed count (steps_of ls) circles) (λ (c : closing.Circle). IsClosed count ls (round_at (numbers_from 0 ls) c)) (λ c. closed_round count ls circles c) circles closed)

-- ---- rounds are circles of steps

told_closing : (by : List ℕ) (circles : List closing.Circle) (k : ℕ) → closing.is_closing circles k ≡ true → list_any (λ (r : Round). r.closing == by_of by k) (map (round_at by) circles) ≡ true
told_closing by [] k is = absurd (false≢true is)
told_closing by (c ∷ cs) k is =
    ⊎_elim
    (λ here. or_left (by_of by c.closing == by_of by k) (list_any (λ (r : Round). r.closing == by_of by k) (map (round_at by) cs)) (eq-eqb (by_of by c.closing) (by_of by k) (ap (by_of by) (eqb-true c.closing k here))))
    (λ later. or_right (by_of by c.closing == by_of by k) (list_any (λ (r : Round). r.closing == by_of by k) (map (round_at by) cs)) (told_closing by cs k later))
    (or_cases (c.closing == k) (closing.is_closing cs k) is)

find_steps : (count : ℕ) (ls : List Lead) (circles : List closing.Circle) (ns : List ℕ) (a b : ℕ) → list_all (is_other (map (round_at (numbers_from 0 ls)) circles)) ns ≡ true → leads_on count ls a ns b ≡ true
    → (ks : List ℕ) × (list_all (closing.is_other count (steps_of ls) circles) ks ≡ true) × (leads (steps_of ls) a ks b ≡ true) × (length ks ≡ length ns)
find_steps count ls circles [] a b others led = ([], refl, led, refl)
find_steps count ls circles (n ∷ ns) a b others led =
    let S = steps_of ls in
    let by = numbers_from 0 ls in
    let rounds = map (round_at by) circles in
    let both = and_parts (is_other rounds n) (list_all (is_other rounds) ns) others in
    elim (slice_get ls n) as (λ o. slice_get ls n ≡ o → option_map_or (λ l. comes count l a && leads_on count ls l.to ns b) o false ≡ true
    → (ks : List ℕ) × (list_all (closing.is_other count S circles) ks ≡ true) × (leads S a ks b ≡ true) × (length ks ≡ length (n ∷ ns))) [
      | None ↦ λ is led. absurd (false≢true led)
      | Some l ↦ λ is led.
          let on = and_parts (comes count l a) (leads_on count ls l.to ns b) led in
          let start = and_parts (nat_lt a count) (nat_lt l.to count && has_front l a) on.0 in
          let end = and_parts (nat_lt l.to count) (has_front l a) start.1 in
          let (k, at, number) = step_all ls 0 n l a is end.1 in
          let first : 0 + n ≡ n = omega arith in
          let same : by_of by k ≡ n = number ∙ first in
          let s : Step = step_to l.to a in
          let between : is_between count S k ≡ true = between_at count S k s at (ltb-true a count start.0) (ltb-true l.to count end.0) in
          let none : closing.is_closing circles k ≡ false = false_from_ne_true (closing.is_closing circles k)
          (λ closes. both_ways (list_any (λ (r : Round). r.closing == n) rounds) (not-true (list_any (λ (r : Round). r.closing == n) rounds) both.0)
          (subst (λ m. list_any (λ (r : Round). r.closing == m) rounds ≡ true) same (told_closing by circles k closes))) in
          let (ks, rest, led_on, long) = find_steps count ls circles ns l.to b both.1 on.1 in (
            k ∷ ks,
            and_from (closing.is_other count S circles k) (list_all (closing.is_other count S circles) ks)
                (and_from (is_between count S k) (not (closing.is_closing circles k)) between (not_from_false (closing.is_closing circles k) none)) rest,
            subst (λ o. option_map_or (λ t. t.from == a && leads S t.to ks b) o false ≡ true) (sym at) (and_from (a == a) (leads S l.to ks b) (eq-eqb a a refl) led_on),
            ap suc long,
          )
    ] refl led

come_back : (steps : List Step) (ks : List ℕ) (p : ℕ) → leads steps p ks p ≡ true → 0 < length ks → is_circle steps ks ≡ true
come_back steps [] p led some = absurd (omega (arith, some))
come_back steps (k ∷ ks) p led some = circle_from steps k ks p led

pub all_rounds : (count : ℕ) (ls : List Lead) (circles : List closing.Circle) → closing.AreAll count (steps_of ls) circles → AreAll count ls (map (round_at (numbers_from 0 ls)) circles)
all_rounds count ls circles all = λ ns others round.
    let (p, led, some) = round in
    let (ks, rest, on, long) = find_steps count ls circles ns p p others led in
    both_ways (is_circle (steps_of ls) ks) (all ks rest) (come_back (steps_of ls) ks p on (omega (arith, some, long)))

-- ---- what is shown

sizes : (by : List ℕ) (circles : List closing.Circle) → sum_by (λ (r : Round). r.size) (map (round_at by) circles) ≡ sum_by (λ (c : closing.Circle). c.size) circles
sizes by [] = refl
sizes by (c ∷ cs) =
    sum_by-cons (λ (r : Round). r.size) (round_at by c) (map (round_at by) cs) ∙ ap (λ n. c.size + n) (sizes by cs) ∙ sym (sum_by-cons (λ (d : closing.Circle). d.size) c cs)

none_mapped : (by : List ℕ) (ks : List ℕ) → map (by_of by) ks ≡ [] → ks ≡ []
none_mapped by ks none = nil_from_length ks (sym (length-map ks (by_of by)) ∙ ap length none)

pub shown_rounds : (by : List ℕ) (circles : List closing.Circle) → closing.AreShown circles → AreShown (map (round_at by) circles)
shown_rounds by circles shown =
    let total = sum_by (λ (r : Round). r.size) (map (round_at by) circles) in
    let same = sizes by circles in
    All-map (λ (r : Round). r.leads ≡ [] → 65536 < total) (round_at by) circles
    (All-weaker (λ (c : closing.Circle). c.steps ≡ [] → 65536 < sum_by (λ (d : closing.Circle). d.size) circles) (λ (c : closing.Circle). map (by_of by) c.steps ≡ [] → 65536 < total)
    (λ c old none. let more : 65536 < sum_by (λ (d : closing.Circle). d.size) circles = old (none_mapped by c.steps none) in omega (arith, more, same)) circles shown)
