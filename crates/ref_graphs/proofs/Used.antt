-- Definitions that are used.
use Rattle.std.proofs.Common.{◌≡◌, ◌∙◌, refl, sym, ap, subst, ℕ, suc, zero, ◌+◌, ◌<◌, ◌↔◌, ⊎_elim, Bool, true, false, not, cond, if◌then◌else◌, ◌&&◌, List, [], ◌∷◌, ◌++◌, length, map, filter, take, get_or, Some, arith}
use Rattle.std.specs.Prelude.{slice_get, Result, Ok, Err, IfOk}
use Rattle.std.specs.List.{list_all, enumerate_from}
use Rattle.std.proofs.lemmas.Bool.{both_ways, and_parts, and_from, or_cases, or_left, or_right, not-true, not_from_false, cases_Bool, cases_lt}
use Rattle.std.proofs.lemmas.Option.{same_Some, none-some}
use Rattle.std.proofs.lemmas.List.{get_or_default, get_or_past, take_more, length-take-le, map-append}
use Rattle.std.proofs.lemmas.List.Elements.{filter-append}
use Rattle.std.proofs.lemmas.List.Folds.{list_all-append, list_all-map}
use Rattle.ref_graphs.specs.Circles.{Step, leads}
use Rattle.ref_graphs.specs.Reaching.{is_between, IsReached}
use Rattle.ref_graphs.specs.Using.{is_led, is_closed, IsUsed, numbers}
use Rattle.ref_graphs.specs.inner.Using.{outward}
use Rattle.ref_graphs.proofs.Searching.{reached_by, led_to, flag_within}

-- whether a step leads on within a set
abbrev leads_on : List Bool → Step → Bool
leads_on set s = is_led set s.from s.to

all_at : (p : Step → Bool) (steps : List Step) (n : ℕ) (s : Step) → list_all p steps ≡ true → slice_get steps n ≡ Some s → p s ≡ true
all_at p [] n s all is = absurd (none-some s is)
all_at p (t ∷ ts) zero s all is = subst (λ u. p u ≡ true) (same_Some t s is) (and_parts (p t) (list_all p ts) all).0
all_at p (t ∷ ts) (suc n) s all is = all_at p ts n s (and_parts (p t) (list_all p ts) all).1 is

all_from : (p : Step → Bool) (steps : List Step) → ((n : ℕ) (s : Step) → slice_get steps n ≡ Some s → p s ≡ true) → list_all p steps ≡ true
all_from p [] each = refl
all_from p (t ∷ ts) each = and_from (p t) (list_all p ts) (each zero t refl) (all_from p ts (λ n s there. each (suc n) s there))

-- a closed set, by steps
closed_steps : (around : List ℕ) (uses : List Step) (set : List Bool) → is_closed around uses set ≡ true → (get_or set 0 false ≡ true) × (list_all (leads_on set) (uses ++ outward around) ≡ true)
closed_steps around uses set closed =
    let p = leads_on set in
    let within = list_all (λ (e : ℕ × ℕ). is_led set e.0 e.1) (enumerate_from 1 around) in
    let both = and_parts (get_or set 0 false) (list_all p uses && within) closed in
    let rest = and_parts (list_all p uses) within both.1 in
    let out : list_all p (outward around) ≡ true = list_all-map p (λ (e : ℕ × ℕ). record { from = e.0; to = e.1 }) (enumerate_from 1 around) ∙ rest.1 in
    (both.0, list_all-append p uses (outward around) ∙ and_from (list_all p uses) (list_all p (outward around)) rest.0 out)

closed_from : (around : List ℕ) (uses : List Step) (set : List Bool) → get_or set 0 false ≡ true → list_all (leads_on set) (uses ++ outward around) ≡ true → is_closed around uses set ≡ true
closed_from around uses set first all =
    let p = leads_on set in
    let within = list_all (λ (e : ℕ × ℕ). is_led set e.0 e.1) (enumerate_from 1 around) in
    let both = and_parts (list_all p uses) (list_all p (outward around)) (sym (list_all-append p uses (outward around)) ∙ all) in
    let out : within ≡ true = sym (list_all-map p (λ (e : ℕ × ℕ). record { from = e.0; to = e.1 }) (enumerate_from 1 around)) ∙ both.1 in
    and_from (get_or set 0 false) (list_all p uses && within) first (and_from (list_all p uses) within both.0 out)

led_on : (set : List Bool) (from to : ℕ) → is_led set from to ≡ true → get_or set from false ≡ true → to < length set → get_or set to false ≡ true
led_on set from to led start within =
    ⊎_elim
    (λ no. absurd (both_ways (get_or set from false) (not-true (get_or set from false) no) start))
    (λ yes. get_or_default set to false true within ∙ yes)
    (or_cases (not (get_or set from false)) (get_or set to true) led)

-- what is reached is in each closed set
pub reached_is_used : (around : List ℕ) (uses : List Step) (count d : ℕ) → count ≡ length around + 1 → IsReached count (uses ++ outward around) d → IsUsed around uses d
reached_is_used around uses count d is r = λ set long closed.
    let S = uses ++ outward around in
    let parts = closed_steps around uses set closed in
    let both = and_parts (list_all (is_between count S) r.0) (leads S 0 r.0 d) r.1 in
    led_to count S set (λ n s there start ends. led_on set s.from s.to (all_at (leads_on set) S n s parts.1 there) start (omega (arith, ends, is, long))) r.0 0 d parts.0 both.0 both.1

-- what is reached is a closed set
flags_closed : (around : List ℕ) (uses : List Step) (count : ℕ) (flags : List Bool) → count ≡ length around + 1 → length flags ≡ count
    → ((p : ℕ) → p < count → (get_or flags p false ≡ true) ↔ IsReached count (uses ++ outward around) p) → is_closed around uses flags ≡ true
flags_closed around uses count flags is places are =
    let S = uses ++ outward around in
    closed_from around uses flags ((are 0 (omega (arith, is))).1 ([], refl))
    (all_from (leads_on flags) S (λ n s there. ⊎_elim
    (λ start.
    let within : s.from < count = omega (arith, flag_within flags s.from start, places) in
    or_right (not (get_or flags s.from false)) (get_or flags s.to true)
    (⊎_elim
    (λ ends.
    let reached : IsReached count S s.to = reached_by count S n s.from s there refl within ends ((are s.from within).0 start) in
    get_or_default flags s.to true false (omega (arith, ends, places)) ∙ (are s.to ends).1 reached)
    (λ past. get_or_past flags s.to true (omega (arith, past, places)))
    (cases_lt s.to count)))
    (λ none. or_left (not (get_or flags s.from false)) (get_or flags s.to true) (not_from_false (get_or flags s.from false) none))
    (cases_Bool (get_or flags s.from false))))

pub used_is_flagged : (around : List ℕ) (uses : List Step) (count : ℕ) (flags : List Bool) (d : ℕ) → count ≡ length around + 1 → length flags ≡ count
    → ((p : ℕ) → p < count → (get_or flags p false ≡ true) ↔ IsReached count (uses ++ outward around) p) → IsUsed around uses d → get_or flags d false ≡ true
used_is_flagged around uses count flags d is places are used = used flags (places ∙ is) (flags_closed around uses count flags is places are)

-- ---- lists that grow

enumerate-push : (n : ℕ) (xs : List ℕ) (y : ℕ) → enumerate_from n (xs ++ y ∷ []) ≡ enumerate_from n xs ++ (n + length xs, y) ∷ []
enumerate-push n [] y = let e : n ≡ n + 0 = omega arith in ap (λ k. (k, y) ∷ []) e
enumerate-push n (x ∷ xs) y =
    let e : (n + 1) + length xs ≡ n + suc (length xs) = omega arith in
    ap (λ l. (n, x) ∷ l) (enumerate-push (n + 1) xs y ∙ ap (λ k. enumerate_from (n + 1) xs ++ (k, y) ∷ []) e)

numbered_more : (xs : List ℕ) (i d : ℕ) → i < length xs → enumerate_from 1 (take (i + 1) xs) ≡ enumerate_from 1 (take i xs) ++ (i + 1, get_or xs i d) ∷ []
numbered_more xs i d within =
    let long : 1 + length (take i xs) ≡ i + 1 = omega (arith, length-take-le i xs (omega (arith, within))) in
    ap (enumerate_from 1) (take_more xs i d within) ∙ enumerate-push 1 (take i xs) (get_or xs i d)
    ∙ ap (λ k. enumerate_from 1 (take i xs) ++ (k, get_or xs i d) ∷ []) long

-- the steps outward from the first definitions, with one more
pub outward_more : (xs : List ℕ) (i d : ℕ) → i < length xs → outward (take (i + 1) xs) ≡ outward (take i xs) ++ record { from = i + 1; to = get_or xs i d } ∷ []
outward_more xs i d within =
    let step : ℕ × ℕ → Step = λ e. record { from = e.0; to = e.1 } in
    ap (map step) (numbered_more xs i d within) ∙ map-append step (enumerate_from 1 (take i xs)) ((i + 1, get_or xs i d) ∷ [])

unless : (b : Bool) (n : ℕ) → cond (not b) (n ∷ []) [] ≡ (if b then [] else n ∷ [])
unless true n = refl
unless false n = refl

-- the numbers of the first definitions without a flag, with one more
pub numbers_more : (flags : List Bool) (xs : List ℕ) (i : ℕ) → i < length xs
    → filter (λ d. not (get_or flags d false)) (numbers (take (i + 1) xs)) ≡ filter (λ d. not (get_or flags d false)) (numbers (take i xs)) ++ (if get_or flags (i + 1) false then [] else (i + 1) ∷ [])
numbers_more flags xs i within =
    let p = λ (d : ℕ). not (get_or flags d false) in
    let first = λ (e : ℕ × ℕ). e.0 in
    ap (λ l. filter p (map first l)) (numbered_more xs i 0 within)
    ∙ ap (filter p) (map-append first (enumerate_from 1 (take i xs)) ((i + 1, get_or xs i 0) ∷ []))
    ∙ filter-append p (map first (enumerate_from 1 (take i xs))) ((i + 1) ∷ [])
    ∙ ap (λ l. filter p (map first (enumerate_from 1 (take i xs))) ++ l) (unless (get_or flags (i + 1) false) (i + 1))

-- what follows from what is said of a result
pub ok_then : {T E : Type 0} (r : Result T E) (P Q : T → Type 0) → IfOk r P → ((x : T) → P x → Q x) → IfOk r Q
ok_then (Ok x) P Q is f = f x is
ok_then (Err e) P Q is f = is
