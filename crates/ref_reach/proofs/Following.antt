-- What the program notes as it follows references.
use Rattle.std.proofs.Common.{◌≡◌, ◌⊎◌, ◌<◌, ◌+◌, ◌-◌, ◌^◌, ℕ, suc, min, Bool, true, false, true≢false, not, ◌||◌, List, [], ◌∷◌, ◌++◌, map, flat_map, filter, length, take, slice_get, Some, None, Contains, bytes_eq, cond, refl, sym, ap, subst, ◌∙◌, append_assoc, append-nil, inl, inr, ⊎_elim, arith, Result, Ok, Err, OnOk, subst₂, length-append, if◌then◌else◌, get_or}
use Rattle.std.specs.Option.{option_map_or}
use Rattle.std.specs.List.{AllZip, list_any, enumerate_from}
use Rattle.std.proofs.lemmas.List.{map-append}
use Rattle.std.proofs.lemmas.Slice.Eq.{bytes_eq-Decides}
use Rattle.std.proofs.lemmas.List.Folds.{list_any-append}
use Rattle.std.proofs.lemmas.List.Concat.{flat_map-append}
use Rattle.std.proofs.lemmas.List.Sums.{fold-append}
use Rattle.std.proofs.lemmas.List.Elements.{filter-append, Contains-append_left, Contains-append_right, Contains-append_cases}
use Rattle.ref_findings.proofs.Zips.{zip_append}
use Rattle.ref_reach.specs.declared.reaching.State.{State}
use Rattle.ref_reach.specs.declared.reaching.Reached.{Reached}
use Rattle.ref_reach.specs.declared.finding.Finding as rust_finding
use Rattle.ref_reach.specs.declared.finding.Problem as rust_problem
use Rattle.ref_descriptions.specs.References.{Reference, references}
use Rattle.ref_reach.specs.declared.place.Place as rust_place
use Rattle.ref_reach.specs.declared.seen.Seen.{Seen}
use Rattle.ref_reach.specs.declared.leading.Outcome.TheVariants as outcome
use Rattle.ref_reach.specs.Places.{Place, below_place}
use Rattle.ref_reach.specs.Leading.{Outcome, Leads, Nothing, Wrong, NotAText, InvalidUri, MissingDocument, LeadsNowhere, WrongKind, Unchecked, Problem}
use Rattle.ref_reach.specs.Reached.{Around, AreReached, IsReached, from_own, from_reached, leads, next, findings_at, findings_from, count_references, Finding, place_text, is_same, is_in, place_in, finding_of, finding_in, kind_in}
use Rattle.ref_reach.specs.Views.{place_of, IsProblemOf, IsFindingOf}
use Rattle.ref_reach.specs.inner.Saying.{IsOutcome, is_led}
use Rattle.ref_reach.specs.inner.Following.{beginning, with_one, with_new, followed, wrong_in, count_in, IsSeen, Says, IsVisited, IsClosed}
use Rattle.ref_reach.proofs.Lists.{joined_more, joined_step}
use Rattle.ref_reach.proofs.Closing.{cons_cases, grows_with, start_is_in, all_are, all_distinct, closed_at, given_at_end, counted_at_end}

-- ---- bytes

two_ways : (b : Bool) → (b ≡ true) ⊎ (b ≡ false)
two_ways true = inl refl
two_ways false = inr refl

or_last : (b c : Bool) → cond c true b ≡ (b || (c || false))
or_last true true = refl
or_last true false = refl
or_last false true = refl
or_last false false = refl

pub seen_before : (b c : Bool) → b ≡ true → cond c true b ≡ b
seen_before true true so = refl
seen_before true false so = refl
seen_before false c so = absurd (true≢false (sym so))

pub not_true : (b : Bool) → not b ≡ true → b ≡ false
not_true false so = refl
not_true true so = absurd (true≢false (sym so))

pub not_false : (b : Bool) → not b ≡ false → b ≡ true
not_false true so = refl
not_false false so = absurd (true≢false so)

-- one text more is among those of places
pub known_more : (ps : List Place) (p : Place) (text : List ℕ) (b : Bool) → b ≡ list_any (λ q. bytes_eq (place_text q) text) ps
    → cond (bytes_eq (place_text p) text) true b ≡ list_any (λ q. bytes_eq (place_text q) text) (ps ++ p ∷ [])
known_more ps p text b is =
    or_last b (bytes_eq (place_text p) text) ∙ ap (λ c. c || (bytes_eq (place_text p) text || false)) is
    ∙ sym (list_any-append (λ q. bytes_eq (place_text q) text) ps (p ∷ []))

-- ---- what a reference is

pub led_places : (m : Outcome) → is_led m ≡ false → place_in m ≡ []
led_places (Leads p) so = absurd (true≢false so)
led_places Nothing so = refl
led_places (Wrong problem) so = refl

pub led_kinds : (number : ℕ) (r : Reference) (m : Outcome) → is_led m ≡ false → kind_in number r m ≡ []
led_kinds number r (Leads p) so = absurd (true≢false so)
led_kinds number r Nothing so = refl
led_kinds number r (Wrong (WrongKind uri is wanted)) so = absurd (true≢false so)
led_kinds number r (Wrong NotAText) so = refl
led_kinds number r (Wrong (InvalidUri refusal)) so = refl
led_kinds number r (Wrong (MissingDocument uri)) so = refl
led_kinds number r (Wrong (LeadsNowhere uri fault)) so = refl
led_kinds number r (Wrong (Unchecked uri)) so = refl

pub led_findings : (number : ℕ) (r : Reference) (m : Outcome) → is_led m ≡ true → finding_in number r m ≡ kind_in number r m
led_findings number r (Leads p) so = refl
led_findings number r Nothing so = absurd (true≢false (sym so))
led_findings number r (Wrong (WrongKind uri is wanted)) so = refl
led_findings number r (Wrong NotAText) so = absurd (true≢false (sym so))
led_findings number r (Wrong (InvalidUri refusal)) so = absurd (true≢false (sym so))
led_findings number r (Wrong (MissingDocument uri)) so = absurd (true≢false (sym so))
led_findings number r (Wrong (LeadsNowhere uri fault)) so = absurd (true≢false (sym so))
led_findings number r (Wrong (Unchecked uri)) so = absurd (true≢false (sym so))

-- ---- lists that go on

-- what each of some elements gives, with those of one more
pub joined_one : {X Y : Type 0} (f : X → List Y) (xs : List X) (x : X) → flat_map f xs ++ f x ≡ flat_map f (xs ++ x ∷ [])
joined_one f xs x = ap (λ l. flat_map f xs ++ l) (sym (append-nil (f x))) ∙ sym (flat_map-append f xs (x ∷ []))

pub mapped_one : {X Y : Type 0} (f : X → Y) (xs : List X) (x : X) → map f (xs ++ x ∷ []) ≡ map f xs ++ f x ∷ []
mapped_one f xs x = map-append f xs (x ∷ [])

-- one that is among them changes nothing
pub known_again : (ps : List Place) (p : Place) (text : List ℕ) (b : Bool) → b ≡ list_any (λ q. bytes_eq (place_text q) text) ps → is_in ps p ≡ true
    → cond (bytes_eq (place_text p) text) true b ≡ list_any (λ q. bytes_eq (place_text q) text) ps
known_again ps p text b is there =
    ⊎_elim
    (λ same.
    let e : place_text p ≡ text = (bytes_eq-Decides (place_text p) text).0 same in
    ap (λ c. cond c true b) same ∙ sym (subst (λ t. list_any (λ q. bytes_eq (place_text q) t) ps ≡ true) e there))
    (λ other. ap (λ c. cond c true b) other ∙ is)
    (two_ways (bytes_eq (place_text p) text))

-- ---- what is noted

pub on_ok : {T E : Type 0} (r : Result T E) (P Q : Type 0) → OnOk r P → (P → Q) → OnOk r Q
on_ok (Ok v) P Q holds f = f holds
on_ok (Err e) P Q holds f = tt

-- a reference leads to a place
pub add_place : (old : State) (new : Seen) (m : Outcome) (place : rust_place.Place) (number : ℕ) (r : Reference) (ps : List Place) (list : List Finding) (count : ℕ)
    → IsOutcome m (outcome.Leads place) → Says old ps list count → IsSeen new (with_one ps (place_of place))
    → Says (record { reached = new; findings = old.findings; references = old.references }) (with_new ps (place_in m)) (list ++ finding_in number r m) count
add_place old new (Leads q) place number r ps list count is says seen =
    record {
      seen = subst (λ z. IsSeen new (with_one ps z)) is seen;
      found = subst (AllZip IsFindingOf old.findings.items) (sym (append-nil list)) says.found;
      counted = says.counted;
    }
add_place old new Nothing place number r ps list count is says seen = absurd is
add_place old new (Wrong p) place number r ps list count is says seen = absurd is

-- it is wrong
pub add_wrong : (old new : State) (m : Outcome) (problem : rust_problem.Problem) (f : rust_finding.Finding) (number : ℕ) (r : Reference) (ps : List Place) (list : List Finding) (count : ℕ)
    → IsOutcome m (outcome.Wrong problem) → new.reached ≡ old.reached → new.references ≡ old.references → new.findings.items ≡ old.findings.items ++ f ∷ []
    → ((p : Problem) → IsProblemOf problem p → IsFindingOf f (finding_of number r p)) → Says old ps list count
    → Says new (with_new ps (place_in m)) (list ++ finding_in number r m) count
add_wrong old new (Wrong p) problem f number r ps list count is reached references items means says =
    record {
      seen = subst (λ s. IsSeen s ps) (sym reached) says.seen;
      found = subst (λ l. AllZip IsFindingOf l (list ++ finding_of number r p ∷ [])) (sym items)
          (zip_append IsFindingOf old.findings.items list (f ∷ []) (finding_of number r p ∷ []) says.found (means p is, tt));
      counted = references ∙ says.counted;
    }
add_wrong old new (Leads q) problem f number r ps list count is reached references items means says = absurd is
add_wrong old new Nothing problem f number r ps list count is reached references items means says = absurd is

-- a reference that leads to no place and to no object of another kind
pub says_unled : (s : State) (m : Outcome) (number : ℕ) (r : Reference) (ps : List Place) (list : List Finding) (count : ℕ) → is_led m ≡ false → Says s ps list count
    → Says s (with_new ps (place_in m)) (list ++ kind_in number r m) count
says_unled s m number r ps list count so says =
    subst₂ (λ xs ys. Says s (with_new ps xs) (list ++ ys) count) (sym (led_places m so)) (sym (led_kinds number r m so))
    (subst (λ l. Says s ps l count) (sym (append-nil list)) says)

pub says_led : (s : State) (m : Outcome) (number : ℕ) (r : Reference) (ps : List Place) (list : List Finding) (count : ℕ) → is_led m ≡ true → Says s (with_new ps (place_in m)) (list ++ finding_in number r m) count
    → Says s (with_new ps (place_in m)) (list ++ kind_in number r m) count
says_led s m number r ps list count so says = subst (λ ys. Says s (with_new ps (place_in m)) (list ++ ys) count) (led_findings number r m so) says

-- more and more places
pub with_more : (ps xs ys : List Place) → with_new (with_new ps xs) ys ≡ with_new ps (xs ++ ys)
with_more ps xs ys = sym (fold-append with_one ps xs ys)

-- one reference more
pub one_reference : {R : Type 0} (s : State) (g : R → List Place) (h : R → List Finding) (passed : List R) (r : R) (ps : List Place) (list : List Finding) (count : ℕ)
    → Says s (with_new (with_new ps (flat_map g passed)) (g r)) ((list ++ flat_map h passed) ++ h r) count
    → Says s (with_new ps (flat_map g (passed ++ r ∷ []))) (list ++ flat_map h (passed ++ r ∷ [])) count
one_reference s g h passed r ps list count says =
    subst₂ (λ xs ys. Says s xs ys count)
    (with_more ps (flat_map g passed) (g r) ∙ ap (with_new ps) (joined_one g passed r))
    (append_assoc list (flat_map h passed) (h r) ∙ ap (λ l. list ++ l) (joined_one h passed r))
    says

-- it is counted
pub counted_one : (s : State) (ps : List Place) (list : List Finding) (count : ℕ) → Says s ps list count
    → Says (record { reached = s.reached; findings = s.findings; references = min (s.references + 1) (2 ^ 64 - 1) }) ps list (count + 1)
counted_one s ps list count says =
    record {
      seen = says.seen;
      found = says.found;
      counted = omega (arith, says.counted);
    }

pub longer_by_one : {R : Type 0} (passed : List R) (r : R) (count : ℕ) → count + length passed + 1 ≡ count + length (passed ++ r ∷ [])
longer_by_one passed r count = omega (arith, length-append passed (r ∷ []))

-- a place more that may be left out
pub filtered_one : (f : Place → Bool) (xs : List Place) (x : Place) → filter f xs ++ filter f (x ∷ []) ≡ filter f (xs ++ x ∷ [])
filtered_one f xs x = sym (filter-append f xs (x ∷ []))

pub kept_one : (f : Place → Bool) (p : Place) → f p ≡ true → filter f (p ∷ []) ≡ p ∷ []
kept_one f p so = ap (λ b. if b then p ∷ [] else []) so

pub left_out : (f : Place → Bool) (p : Place) → f p ≡ false → filter f (p ∷ []) ≡ []
left_out f p so = ap (λ b. if b then p ∷ [] else []) so

-- one reference of a place more, in a loop
pub step_with : {X : Type 0} (s : State) (number : ℕ) (g : Reference → List Place) (h : Reference → List Finding) (v : X → Reference) (passed : List X) (x : X) (ps : List Place) (list : List Finding) (count : ℕ)
    → number ≡ min (s.references + 1) (2 ^ 64 - 1)
    → Says s (with_new (with_new ps (flat_map g (map v passed))) (g (v x))) ((list ++ flat_map h (map v passed)) ++ h (v x)) (count + length (map v passed))
    → Says (record { reached = s.reached; findings = s.findings; references = number }) (with_new ps (flat_map g (map v (passed ++ x ∷ [])))) (list ++ flat_map h (map v (passed ++ x ∷ []))) (count + length (map v (passed ++ x ∷ [])))
step_with s number g h v passed x ps list count more says =
    let t : State = record { reached = s.reached; findings = s.findings; references = number } in
    let noted = one_reference s g h (map v passed) (v x) ps list (count + length (map v passed)) says in
    let all = map v passed ++ v x ∷ [] in
    let counted : Says t (with_new ps (flat_map g all)) (list ++ flat_map h all) (count + length (map v passed) + 1) =
    subst (λ k. Says (record { reached = s.reached; findings = s.findings; references = k }) (with_new ps (flat_map g all)) (list ++ flat_map h all) (count + length (map v passed) + 1)) (sym more)
    (counted_one s (with_new ps (flat_map g all)) (list ++ flat_map h all) (count + length (map v passed)) noted) in
    subst (λ l. Says t (with_new ps (flat_map g l)) (list ++ flat_map h l) (count + length l)) (sym (mapped_one v passed x))
    (subst (λ k. Says t (with_new ps (flat_map g all)) (list ++ flat_map h all) k) (longer_by_one (map v passed) (v x) count) counted)

-- the same without a count
pub step_without : {X : Type 0} (s : State) (g : Reference → List Place) (h : Reference → List Finding) (v : X → Reference) (passed : List X) (x : X) (ps : List Place) (list : List Finding) (count : ℕ)
    → Says s (with_new (with_new ps (flat_map g (map v passed))) (g (v x))) ((list ++ flat_map h (map v passed)) ++ h (v x)) count
    → Says s (with_new ps (flat_map g (map v (passed ++ x ∷ [])))) (list ++ flat_map h (map v (passed ++ x ∷ []))) count
step_without s g h v passed x ps list count says =
    subst (λ l. Says s (with_new ps (flat_map g l)) (list ++ flat_map h l) count) (sym (mapped_one v passed x))
    (one_reference s g h (map v passed) (v x) ps list count says)

-- one place more that may be left out, in a loop
pub step_below : {X : Type 0} (s : State) (f : Place → Bool) (v : X → Place) (passed : List X) (x : X) (ps : List Place) (list : List Finding) (count : ℕ)
    → Says s (with_new (with_new ps (filter f (map v passed))) (filter f (v x ∷ []))) list count
    → Says s (with_new ps (filter f (map v (passed ++ x ∷ [])))) list count
step_below s f v passed x ps list count says =
    subst (λ l. Says s l list count)
    (with_more ps (filter f (map v passed)) (filter f (v x ∷ [])) ∙ ap (with_new ps) (filtered_one f (map v passed) (v x) ∙ ap (filter f) (sym (mapped_one v passed x))))
    says

-- ---- what is reached

itself : (p : Place) → is_same p p ≡ true
itself p = (bytes_eq-Decides (place_text p) (place_text p)).1 refl

-- what some element gives is among what all give
pub in_joined : {X Y : Type 0} (f : X → List Y) (xs : List X) (x : X) (y : Y) → Contains xs x → Contains (f x) y → Contains (flat_map f xs) y
in_joined f [] x y (k, within, is) given = absurd (omega (arith, within))
in_joined f (z ∷ xs) x y among given =
    ⊎_elim
    (λ first. Contains-append_left (f z) (flat_map f xs) y (subst (λ w. Contains (f w) y) (sym first) given))
    (λ later. Contains-append_right (f z) (flat_map f xs) y (in_joined f xs x y later given))
    (cons_cases z xs x among)

-- and nothing else
pub from_joined : {X Y : Type 0} (f : X → List Y) (xs : List X) (y : Y) → Contains (flat_map f xs) y → (x : X) × Contains xs x × Contains (f x) y
from_joined f [] y (k, within, is) = absurd (omega (arith, within))
from_joined f (z ∷ xs) y among =
    ⊎_elim
    (λ first. (z, (0, omega arith, refl), first))
    (λ later.
    let there = from_joined f xs y later in
    (there.0, (suc there.1.0, omega (arith, there.1.1), there.1.2), there.2))
    (Contains-append_cases (f z) (flat_map f xs) y among)

-- where nothing more is at n, what was followed is what is reached
pub are_reached : (a : Around) (n : ℕ) → slice_get (followed a n) n ≡ None → AreReached a (followed a n)
are_reached a n none = record {
  only = all_are is_same (next a) (beginning a) (IsReached a)
      (λ p among. let from = from_joined (leads a) a.own p among in from_own from.0 p from.1 from.2)
      (λ q p is near. from_reached q p is near) n;
  from_own = λ from p among near. start_is_in is_same (next a) (beginning a) itself n p (in_joined (leads a) a.own from p among near);
  closed = λ from p among near. closed_at is_same (next a) (beginning a) itself n none from p among near;
  once = all_distinct is_same (next a) (beginning a) n;
}

-- ---- a visit

-- the place that was visited, and what is next to it
pub visited : (a : Around) (s : State) (p q : Place) (bs : List Place) (k n : ℕ) (ps : List Place) (list : List Finding) (count : ℕ) → p ≡ q → bs ≡ below_place p → k ≡ n
    → Says s (with_new (with_new ps (filter (λ x. not (a.is_own x)) bs)) (leads a p)) (list ++ findings_at a (k, p)) (count + length (references p.reading p.value))
    → Says s (with_new ps (next a q)) (list ++ findings_at a (n, q)) (count + length (references q.reading q.value))
visited a s p q bs k n ps list count same below number says =
    subst (λ z. Says s (with_new ps (next a z)) (list ++ findings_at a (n, z)) (count + length (references z.reading z.value))) same
    (subst (λ m. Says s (with_new ps (next a p)) (list ++ findings_at a (m, p)) (count + length (references p.reading p.value))) number
    (subst (λ l. Says s l (list ++ findings_at a (k, p)) (count + length (references p.reading p.value)))
    (with_more ps (filter (λ x. not (a.is_own x)) bs) (leads a p) ∙ ap (λ l. with_new ps (filter (λ x. not (a.is_own x)) l ++ leads a p)) below)
    says))

wrong_more : (a : Around) (n : ℕ) (p : Place) → slice_get (followed a n) n ≡ Some p → wrong_in a (suc n) ≡ wrong_in a n ++ findings_at a (length a.own + n, p)
wrong_more a n p at = ap (λ o. wrong_in a n ++ option_map_or (λ q. findings_at a (length a.own + n, q)) o []) at

count_more : (a : Around) (n : ℕ) (p : Place) → slice_get (followed a n) n ≡ Some p → count_in a (suc n) ≡ count_in a n + length (references p.reading p.value)
count_more a n p at = ap (λ o. count_in a n + option_map_or (λ q. length (references q.reading q.value)) o 0) at

next_number : (n : ℕ) → suc n ≡ n + 1
next_number n = omega arith

pub closed_step : (a : Around) (s : State) (n : ℕ) (list : List Finding) (count : ℕ) (b : Bool) → b ≡ true
    → IsVisited a (followed a n) (list ++ wrong_in a n) (count + count_in a n) n s b
    → Says s (followed a (n + 1)) (list ++ wrong_in a (n + 1)) (count + count_in a (n + 1))
closed_step a s n list count true so visit =
    let p = visit.0 in
    let at = visit.1 in
    let refs = length (references p.reading p.value) in
    let counted : count + count_in a n + refs ≡ count + count_in a (suc n) = omega (arith, count_more a n p at) in
    subst (λ k. Says s (followed a k) (list ++ wrong_in a k) (count + count_in a k)) (next_number n)
    (subst (λ ps. Says s ps (list ++ wrong_in a (suc n)) (count + count_in a (suc n))) (sym (grows_with is_same (next a) (beginning a) n p at))
    (subst (λ fs. Says s (with_new (followed a n) (next a p)) fs (count + count_in a (suc n))) (append_assoc list (wrong_in a n) (findings_at a (length a.own + n, p)) ∙ ap (λ l. list ++ l) (sym (wrong_more a n p at)))
    (subst (λ k. Says s (with_new (followed a n) (next a p)) ((list ++ wrong_in a n) ++ findings_at a (length a.own + n, p)) k) counted visit.2)))
closed_step a s n list count false so visit = absurd (true≢false (sym so))

pub closed_end : (a : Around) (s : State) (r : Reached) (n : ℕ) (list : List Finding) (count : ℕ) (b : Bool) → b ≡ false
    → IsVisited a (followed a n) (list ++ wrong_in a n) (count + count_in a n) n s b
    → r.places.items ≡ s.reached.places.items → r.findings.items ≡ s.findings.items → r.references ≡ s.references
    → IsClosed a list count r
closed_end a s r n list count false so visit places found references_are =
    let are : map place_of r.places.items ≡ followed a n = ap (map place_of) places ∙ visit.1.seen.listed in
    let wrong : wrong_in a n ≡ findings_from a (length a.own) (followed a n) = given_at_end is_same (next a) (beginning a) (findings_at a) (length a.own) n visit.0 in
    let counted : count_in a n ≡ count_references (followed a n) = counted_at_end is_same (next a) (beginning a) (λ p. references p.reading p.value) n visit.0 in
    record {
      places = subst (AreReached a) (sym are) (are_reached a n visit.0);
      found = subst₂ (λ fs l. AllZip IsFindingOf fs l) (sym found) (ap (λ l. list ++ l) (wrong ∙ ap (findings_from a (length a.own)) (sym are))) visit.1.found;
      counted = references_are ∙ visit.1.counted ∙ ap (λ k. min (count + k) (2 ^ 64 - 1)) (counted ∙ ap count_references (sym are));
    }
closed_end a s r n list count true so visit places found references_are = absurd (true≢false so)

-- ---- own places

-- one own place more
pub own_more : {X : Type 0} (a : Around) (s : State) (h : ℕ × Place → List Finding) (v : X → Place) (xs : List X) (n : ℕ) (x : X) (count more : ℕ) → n < length xs → x ≡ get_or xs n x
    → Says s (with_new (with_new [] (flat_map (leads a) (map v (take n xs)))) (leads a (v x))) (flat_map h (enumerate_from 0 (map v (take n xs))) ++ h (n, v x)) count → count ≡ more
    → Says s (with_new [] (flat_map (leads a) (map v (take (n + 1) xs)))) (flat_map h (enumerate_from 0 (map v (take (n + 1) xs)))) more
own_more a s h v xs n x count more within is says counted =
    let before = flat_map (leads a) (map v (take n xs)) in
    subst (λ k. Says s (with_new [] (flat_map (leads a) (map v (take (n + 1) xs)))) (flat_map h (enumerate_from 0 (map v (take (n + 1) xs)))) k) counted
    (subst₂ (λ ps fs. Says s ps fs count)
    (with_more [] before (leads a (v x)) ∙ ap (with_new []) (ap (λ y. before ++ leads a (v y)) is ∙ sym (joined_more (leads a) v xs n x within)))
    (sym (joined_step h v xs n x within is))
    says)

pub count_own : {X : Type 0} (v : X → Place) (xs : List X) (n : ℕ) (x : X) → n < length xs → x ≡ get_or xs n x
    → count_references (map v (take n xs)) + length (references (v x).reading (v x).value) ≡ count_references (map v (take (n + 1) xs))
count_own v xs n x within is =
    let r : Place → List Reference = λ p. references p.reading p.value in
    ap (λ y. count_references (map v (take n xs)) + length (r (v y))) is
    ∙ sym (length-append (flat_map r (map v (take n xs))) (r (v (get_or xs n x))))
    ∙ ap length (sym (joined_more r v xs n x within))

-- places one after another
enumerated : {X : Type 0} (k : ℕ) (xs ys : List X) → enumerate_from k (xs ++ ys) ≡ enumerate_from k xs ++ enumerate_from (k + length xs) ys
enumerated k [] ys = let e : k ≡ k + 0 = omega arith in ap (λ n. enumerate_from n ys) e
enumerated k (x ∷ xs) ys =
    let e : (k + 1) + length xs ≡ k + suc (length xs) = omega arith in
    ap (λ l. (k, x) ∷ l) (enumerated (k + 1) xs ys ∙ ap (λ n. enumerate_from (k + 1) xs ++ enumerate_from n ys) e)

pub findings_of_both : (a : Around) (xs ys : List Place) → findings_from a 0 xs ++ findings_from a (length xs) ys ≡ findings_from a 0 (xs ++ ys)
findings_of_both a xs ys =
    let e : 0 + length xs ≡ length xs = omega arith in
    sym (ap (flat_map (findings_at a)) (enumerated 0 xs ys ∙ ap (λ n. enumerate_from 0 xs ++ enumerate_from n ys) e)
    ∙ flat_map-append (findings_at a) (enumerate_from 0 xs) (enumerate_from (length xs) ys))

pub count_of_both : (xs ys : List Place) → count_references xs + count_references ys ≡ count_references (xs ++ ys)
count_of_both xs ys =
    let r : Place → List Reference = λ p. references p.reading p.value in
    sym (ap length (flat_map-append r xs ys) ∙ length-append (flat_map r xs) (flat_map r ys))

pub count_of_none : (n : ℕ) → min (0 + n) (2 ^ 64 - 1) ≡ min n (2 ^ 64 - 1)
count_of_none n = let e : 0 + n ≡ n = omega arith in ap (λ k. min k (2 ^ 64 - 1)) e
