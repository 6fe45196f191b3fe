-- Numbers that are reached from a root, as they are gone through. In this order:
-- 1. Marks: how many are set grows by one where one is set.
-- 2. Adding numbers: `Grows` says what one state has beyond another, and two such states in a row are put together.
-- 3. The run: each number in the queue has had its own list added, so that what is marked is reached, and the queue ends.
-- 4. What is reached is what is needed: the least numbers that hold the root and what they refer to.
-- 5. The steps of the program are those of the run.
use Rattle.std.specs.Prelude.{slice_set}
use Rattle.std.proofs.Common.{◌≡◌, ℕ, zero, suc, ◌+◌, ◌<◌, ◌≤◌, Bool, true, false, ◌==◌, ◌||◌, List, [], ◌∷◌, ◌++◌, map, flat_map, length, take, slice_get, Option, Some, None, ◌⊎◌, inl, inr, ⊎_elim, refl, ap, sym, subst, ◌∙◌, append_assoc, append-nil, arith, true≢false}
use Rattle.std.specs.Option.{unwrap_or, option_map_or, option_to_list}
use Rattle.std.proofs.lemmas.List.{length-set, take_all}
use Rattle.std.proofs.lemmas.Option.{slice_get_within}
use Rattle.std.proofs.lemmas.Bool.{eqb-true, eq-eqb}
use Rattle.ref_definitions.specs.World.{Document, Layer}
use Rattle.ref_definitions.specs.Places.{Place, places}
use Rattle.ref_bundle.specs.Needed.{Further, counted_documents, is_among, document_under, targets, targets_from, referred_in, referred_by_seen, referred_of, referred_from, numbers_of_needed, Seen}
use Rattle.ref_bundle.specs.inner.Reach.{State, is_marked, added_where, added_document, all_added, list_at, IsReach, count, IsRun}
use Rattle.ref_bundle.specs.inner.Seen.{see, seen_in}
use Rattle.ref_bundle.proofs.Numbers.{or_cases, or_left, or_right, one_test, among_last}
use Rattle.ref_bundle.proofs.Rounds.{root_needed, referred_needed, needed_least}

-- ---- marks

or_false : (b : Bool) → b ≡ (b || false)
or_false true = refl
or_false false = refl

apart : (n m : ℕ) → (n ≡ m → ⊥) → false ≡ (n == m)
apart n m differ = one_test false (n == m) (λ is. absurd (true≢false (sym is))) (λ is. absurd (differ (eqb-true n m is)))

set_marked : (ms : List Bool) (n m : ℕ) → slice_get ms n ≡ Some false → is_marked (slice_set ms n true) m ≡ (is_marked ms m || (n == m))
set_marked [] n m is = cc
set_marked (x ∷ ms) zero zero is = sym (or_right x true refl)
set_marked (x ∷ ms) zero (suc m) is = or_false (is_marked ms m) ∙ ap (λ b. is_marked ms m || b) (apart 0 (suc m) (λ same. omega (arith, same)))
set_marked (x ∷ ms) (suc n) zero is = or_false x ∙ ap (λ b. x || b) (apart (suc n) 0 (λ same. omega (arith, same)))
set_marked (x ∷ ms) (suc n) (suc m) is = set_marked ms n m is ∙ ap (λ b. is_marked ms m || b) (same_suc n m)
  where
    same_suc : (n m : ℕ) → (n == m) ≡ (suc n == suc m)
    same_suc n m = one_test (n == m) (suc n == suc m)
        (λ is. eq-eqb (suc n) (suc m) (ap suc (eqb-true n m is)))
        (λ is. let same = eqb-true (suc n) (suc m) is in eq-eqb n m (omega (arith, same)))

count_set : (ms : List Bool) (n : ℕ) → slice_get ms n ≡ Some false → count (slice_set ms n true) ≡ count ms + 1
count_set [] n is = cc
count_set (true ∷ ms) zero is = cc
count_set (false ∷ ms) zero is = refl
count_set (true ∷ ms) (suc n) is = ap (λ k. k + 1) (count_set ms n is)
count_set (false ∷ ms) (suc n) is = count_set ms n is

pub count_within : (ms : List Bool) → count ms ≤ length ms
count_within [] = omega arith
count_within (true ∷ ms) = let rest = count_within ms in omega (arith, rest)
count_within (false ∷ ms) = let rest = count_within ms in omega (arith, rest)

marked_at : (ms : List Bool) (n : ℕ) → slice_get ms n ≡ Some true → is_marked ms n ≡ true
marked_at ms n is = ap (λ o. unwrap_or o false) is

none_past : {X : Type 0} (xs : List X) (n : ℕ) → slice_get xs n ≡ None → length xs ≤ n
none_past [] n is = omega arith
none_past (x ∷ xs) zero is = cc
none_past (x ∷ xs) (suc n) is = let rest = none_past xs n is in omega (arith, rest)

marked_within : (ms : List Bool) (n : ℕ) → is_marked ms n ≡ true → n < length ms
marked_within [] n is = absurd (true≢false (sym is))
marked_within (x ∷ ms) zero is = omega arith
marked_within (x ∷ ms) (suc n) is = let rest = marked_within ms n is in omega (arith, rest)

-- ---- adding numbers

-- what adding some numbers leaves
pub record Grows (s t : State) (more : ℕ → Bool) : Type 0 where
  pub long : length t.marks ≡ length s.marks
  pub stay : (n : ℕ) → is_marked s.marks n ≡ true → is_marked t.marks n ≡ true
  pub new : (n : ℕ) → is_marked t.marks n ≡ true → (is_marked s.marks n ≡ true) ⊎ (more n ≡ true)
  pub all : (n : ℕ) → more n ≡ true → n < length s.marks → is_marked t.marks n ≡ true
  pub queued : ((n : ℕ) → is_among s.queue n ≡ is_marked s.marks n) → (n : ℕ) → is_among t.queue n ≡ is_marked t.marks n
  pub counted : count s.marks ≡ length s.queue → count t.marks ≡ length t.queue
  pub behind : List ℕ
  pub order : t.queue ≡ s.queue ++ behind

push_long : (xs : List ℕ) (n : ℕ) → length (xs ++ n ∷ []) ≡ length xs + 1
push_long [] n = refl
push_long (x ∷ xs) n = ap suc (push_long xs n) ∙ omega arith

grows_where : (o : Option Bool) (s : State) (n : ℕ) → slice_get s.marks n ≡ o → Grows s (added_where o s n) (λ m. n == m)
grows_where (Some false) s n is = record {
  long = length-set s.marks n true;
  stay = λ m h. set_marked s.marks n m is ∙ or_left _ _ h;
  new = λ m h. or_cases _ _ (sym (set_marked s.marks n m is) ∙ h);
  all = λ m h within. set_marked s.marks n m is ∙ or_right _ _ h;
  queued = λ q m. among_last s.queue n m ∙ ap (λ b. b || (n == m)) (q m) ∙ sym (set_marked s.marks n m is);
  counted = λ c. count_set s.marks n is ∙ ap (λ k. k + 1) c ∙ sym (push_long s.queue n);
  behind = n ∷ [];
  order = refl;
}
grows_where (Some true) s n is = record {
  long = refl;
  stay = λ m h. h;
  new = λ m h. inl h;
  all = λ m h within. subst (λ k. is_marked s.marks k ≡ true) (eqb-true n m h) (marked_at s.marks n is);
  queued = λ q. q;
  counted = λ c. c;
  behind = [];
  order = sym (append-nil s.queue);
}
grows_where None s n is = record {
  long = refl;
  stay = λ m h. h;
  new = λ m h. inl h;
  all = λ m h within. let past = none_past s.marks n is in let same = eqb-true n m h in absurd (omega (arith, within, past, same));
  queued = λ q. q;
  counted = λ c. c;
  behind = [];
  order = sym (append-nil s.queue);
}

grows : (s : State) (n : ℕ) → Grows s (added_document s n) (λ m. n == m)
grows s n = grows_where (slice_get s.marks n) s n refl

pub all_grows : (ns : List ℕ) (s : State) → Grows s (all_added s ns) (is_among ns)
all_grows [] s = record {
  long = refl;
  stay = λ m h. h;
  new = λ m h. inl h;
  all = λ m h within. absurd (true≢false (sym h));
  queued = λ q. q;
  counted = λ c. c;
  behind = [];
  order = sym (append-nil s.queue);
}
all_grows (n ∷ ns) s =
    let g = grows s n in
    let h = all_grows ns (added_document s n) in
    record {
      long = h.long ∙ g.long;
      stay = λ m is. h.stay m (g.stay m is);
      new = λ m is. ⊎_elim
          (λ before. ⊎_elim (λ a. inl a) (λ b. inr (or_left _ _ b)) (g.new m before))
          (λ later. inr (or_right _ _ later))
          (h.new m is);
      all = λ m is within. ⊎_elim
          (λ here. h.stay m (g.all m here within))
          (λ later. h.all m later (subst (λ k. m < k) (sym g.long) within))
          (or_cases (n == m) _ is);
      queued = λ q. h.queued (g.queued q);
      counted = λ c. h.counted (g.counted c);
      behind = g.behind ++ h.behind;
      order = h.order ∙ ap (λ q. q ++ h.behind) g.order ∙ append_assoc s.queue g.behind h.behind;
    }

-- ---- the run

nothing_marked : (ms : List Bool) → ((n : ℕ) → is_marked ms n ≡ false) → count ms ≡ 0
nothing_marked [] none = refl
nothing_marked (true ∷ ms) none = absurd (true≢false (none 0))
nothing_marked (false ∷ ms) none = nothing_marked ms (λ n. none (suc n))

-- no number is marked, and then the root is added
pub run_begins : (lists : List (List ℕ)) (root : ℕ) (marks : List Bool) → length marks ≡ length lists → ((n : ℕ) → is_marked marks n ≡ false)
    → IsRun lists root 0 (added_document (record { marks = marks; queue = [] }) root)
run_begins lists root marks long none =
    let s : State = record { marks = marks; queue = [] } in
    let g = grows s root in
    record {
      long = g.long ∙ long;
      queued = g.queued (λ n. sym (none n));
      counted = g.counted (nothing_marked marks none);
      start = λ within. g.all root (eq-eqb root root refl) (subst (λ k. root < k) (sym long) within);
      closed = λ n m is. absurd (true≢false (sym is));
      least = λ test has closed n is. ⊎_elim
          (λ before. absurd (true≢false (sym before ∙ none n)))
          (λ here. let same = eqb-true root n here in
          let within = marked_within (added_document s root).marks n is in
          let all = g.long ∙ long in
          subst (λ k. test k ≡ true) same (has (omega (arith, within, all, same))))
          (g.new n is);
    }

taken_one : (xs : List ℕ) (k n m : ℕ) → slice_get xs k ≡ Some n → is_among (take (suc k) xs) m ≡ true → (is_among (take k xs) m ≡ true) ⊎ (m ≡ n)
taken_one [] k n m is among = cc
taken_one (x ∷ xs) zero n m is among =
    ⊎_elim (λ here. inr (sym (eqb-true x m here) ∙ some_is x n is)) (λ later. absurd (true≢false (sym later))) (or_cases (x == m) false among)
  where
    some_is : (x n : ℕ) → Some x ≡ Some n → x ≡ n
    some_is x n is = ap (λ o. unwrap_or o 0) is
taken_one (x ∷ xs) (suc k) n m is among =
    ⊎_elim
    (λ here. inl (or_left _ _ here))
    (λ later. ⊎_elim (λ a. inl (or_right _ _ a)) (λ b. inr b) (taken_one xs k n m is later))
    (or_cases (x == m) _ among)

in_queue : (xs : List ℕ) (k n : ℕ) → slice_get xs k ≡ Some n → is_among xs n ≡ true
in_queue [] k n is = cc
in_queue (x ∷ xs) zero n is = or_left _ _ (eq-eqb x n (ap (λ o. unwrap_or o 0) is))
in_queue (x ∷ xs) (suc k) n is = or_right _ _ (in_queue xs k n is)

take_front : (xs ys : List ℕ) (k : ℕ) → k ≤ length xs → take k (xs ++ ys) ≡ take k xs
take_front xs ys zero within = refl
take_front [] ys (suc k) within = absurd (omega (arith, within))
take_front (x ∷ xs) ys (suc k) within = ap (λ l. x ∷ l) (take_front xs ys k (omega (arith, within)))

-- the list of the number at a place of the queue is gone through
pub run_goes_on : (lists : List (List ℕ)) (root head n : ℕ) (s : State) → IsRun lists root head s → slice_get s.queue head ≡ Some n
    → IsRun lists root (head + 1) (all_added s (list_at lists n))
run_goes_on lists root head n s run at =
    let g = all_grows (list_at lists n) s in
    let t = all_added s (list_at lists n) in
    let small = slice_get_within s.queue head n at in
    let front : take (head + 1) t.queue ≡ take (head + 1) s.queue = ap (take (head + 1)) g.order ∙ take_front s.queue g.behind (head + 1) (omega (arith, small)) in
    let next : head + 1 ≡ suc head = omega arith in
    record {
      long = g.long ∙ run.long;
      queued = g.queued run.queued;
      counted = g.counted run.counted;
      start = λ within. g.stay root (run.start within);
      closed = λ a m is among within.
          ⊎_elim
          (λ before. g.stay m (run.closed a m before among within))
          (λ here. g.all m (subst (λ k. is_among (list_at lists k) m ≡ true) here among) (subst (λ k. m < k) (sym run.long) within))
          (taken_one s.queue head n a at (subst (λ k. is_among (take k s.queue) a ≡ true) next (ap (λ l. is_among l a) (sym front) ∙ is)));
      least = λ test has closed m is.
          ⊎_elim
          (run.least test has closed m)
          (λ more. closed n m (run.least test has closed n (sym (run.queued n) ∙ in_queue s.queue head n at)) more
          (let within = marked_within t.marks m is in let all = g.long ∙ run.long in omega (arith, within, all)))
          (g.new m is);
    }

-- and all of them are
pub run_ends : (lists : List (List ℕ)) (root head : ℕ) (s : State) → IsRun lists root head s → length s.queue ≤ head → IsReach lists root s.marks
run_ends lists root head s run all = record {
  start = run.start;
  closed = λ n m is. run.closed n m (ap (λ l. is_among l n) (take_all head s.queue all) ∙ run.queued n ∙ is);
  least = run.least;
}

-- the queue is not longer than the lists
pub run_within : (lists : List (List ℕ)) (root head : ℕ) (s : State) → IsRun lists root head s → length s.queue ≤ length lists
run_within lists root head s run =
    let most = count_within s.marks in let long = run.long in let counted = run.counted in omega (arith, most, long, counted)

-- ---- what is reached is what is needed

referred_at : (layer : Layer) (fs : Further) (k : ℕ) (ds : Layer) (n : ℕ) → list_at (map (referred_of layer fs) (counted_documents k ds)) n ≡ option_map_or (λ d. referred_of layer fs (k + n, d)) (slice_get ds n) []
referred_at layer fs k [] n = refl
referred_at layer fs k (d ∷ ds) zero = ap (λ m. referred_of layer fs (m, d)) (let e : k ≡ k + 0 = omega arith in e)
referred_at layer fs k (d ∷ ds) (suc n) =
    referred_at layer fs (suc k) ds n ∙ ap (λ m. option_map_or (λ c. referred_of layer fs (m, c)) (slice_get ds n) []) (let e : suc k + n ≡ k + suc n = omega arith in e)

-- the list at a number is what the document with that number refers to
referred_there : (layer : Layer) (fs : Further) (n : ℕ) → list_at (map (referred_of layer fs) (counted_documents 0 layer)) n ≡ referred_from layer fs n
referred_there layer fs n =
    referred_at layer fs 0 layer n ∙ ap (λ m. option_map_or (λ d. referred_of layer fs (m, d)) (slice_get layer n) []) (let e : 0 + n ≡ n = omega arith in e)

map_length : {X Y : Type 0} (f : X → Y) (xs : List X) → length (map f xs) ≡ length xs
map_length f [] = refl
map_length f (x ∷ xs) = ap suc (map_length f xs)

counted_length : (k : ℕ) (ds : Layer) → length (counted_documents k ds) ≡ length ds
counted_length k [] = refl
counted_length k (d ∷ ds) = ap suc (counted_length (suc k) ds)

-- the numbers that are reached by what documents refer to are those of the documents that are needed
pub reached_are_needed : (layer : Layer) (fs : Further) (root : ℕ) (marks : List Bool) → IsReach (map (referred_of layer fs) (counted_documents 0 layer)) root marks
    → (n : ℕ) → is_marked marks n ≡ is_among (numbers_of_needed layer fs root) n
reached_are_needed layer fs root marks reach n =
    let lists = map (referred_of layer fs) (counted_documents 0 layer) in
    let long : length lists ≡ length layer = map_length (referred_of layer fs) (counted_documents 0 layer) ∙ counted_length 0 layer in
    one_test (is_marked marks n) (is_among (numbers_of_needed layer fs root) n)
    (reach.least (is_among (numbers_of_needed layer fs root))
    (λ within. root_needed layer fs root (subst (λ k. root < k) long within))
    (λ a m is among within. referred_needed layer fs root a m is (ap (λ l. is_among l m) (sym (referred_there layer fs a)) ∙ among) (subst (λ k. m < k) long within)) n)
    (needed_least layer fs root (is_marked marks)
    (λ within. reach.start (subst (λ k. root < k) (sym long) within))
    (λ a m is among within. reach.closed a m is (ap (λ l. is_among l m) (referred_there layer fs a) ∙ among) (subst (λ k. m < k) (sym long) within)) n)

-- ---- the steps of the program

pub one_unmarked : (ms : List Bool) → ((n : ℕ) → is_marked ms n ≡ false) → (n : ℕ) → is_marked (ms ++ false ∷ []) n ≡ false
one_unmarked [] none zero = refl
one_unmarked [] none (suc n) = refl
one_unmarked (m ∷ ms) none zero = none 0
one_unmarked (m ∷ ms) none (suc n) = one_unmarked ms (λ k. none (suc k)) n

pub push_length : (ms : List Bool) (m : Bool) → length (ms ++ m ∷ []) ≡ length ms + 1
push_length [] m = refl
push_length (x ∷ ms) m = ap suc (push_length ms m) ∙ omega arith

pub lists_length : {X Y : Type 0} (f : X → Y) (xs : List X) → length (map f xs) ≡ length xs
lists_length f xs = map_length f xs

pub list_found : {X : Type 0} (f : X → List ℕ) (xs : List X) (n : ℕ) (x : X) → slice_get xs n ≡ Some x → list_at (map f xs) n ≡ f x
list_found f [] n x is = cc
list_found f (y ∷ xs) zero x is = ap f (let e : y ≡ x = cc in e)
list_found f (y ∷ xs) (suc n) x is = list_found f xs n x is

pub list_missing : {X : Type 0} (f : X → List ℕ) (xs : List X) (n : ℕ) → slice_get xs n ≡ None → list_at (map f xs) n ≡ []
list_missing f [] n is = refl
list_missing f (y ∷ xs) zero is = cc
list_missing f (y ∷ xs) (suc n) is = list_missing f xs n is

of_seen : (n : ℕ) (ps : List Place) → flat_map (λ s. targets_from s.base s.value) (map (see n) ps) ≡ flat_map targets ps
of_seen n [] = refl
of_seen n (p ∷ ps) = ap (λ l. targets p ++ l) (of_seen n ps)

-- what the places of a document refer to
pub referred_is : (layer : Layer) (e : ℕ × Document) (ss : List Seen) → ss ≡ seen_in e
    → referred_by_seen layer ss ≡ referred_in layer e.1
referred_is layer e ss is =
    ap (λ l. flat_map (λ uri. option_to_list (document_under layer uri)) (flat_map (λ s. targets_from s.base s.value) l)) is
    ∙ ap (flat_map (λ uri. option_to_list (document_under layer uri))) (of_seen e.0 (places e.1))

pub map_twice : {X Y Z : Type 0} (f : Y → Z) (g : X → Y) (xs : List X) → map (λ x. f (g x)) xs ≡ map f (map g xs)
map_twice f g [] = refl
map_twice f g (x ∷ xs) = ap (λ l. f (g x) ∷ l) (map_twice f g xs)
