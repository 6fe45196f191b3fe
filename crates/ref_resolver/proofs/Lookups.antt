-- A lookup, by what its URI means; and the recursive one, URI by URI of the scope.
use Rattle.std.proofs.Common.{◌≡◌, ℕ, suc, ◌+◌, arith, Bool, true, false, List, [], ◌∷◌, drop, take, codes, Some, None, Result, Ok, Err, cond, refl, sym, ap, ◌∙◌}
use Rattle.std.specs.List.{take_while, prefix_len, last_or}
use Rattle.std.specs.Option.{ok_or, unwrap_or}
use Rattle.ref_uri.specs.Targets.{target, fragment_part}
use Rattle.ref_definitions.specs.Results.{◌>>=◌}
use Rattle.ref_definitions.specs.World.{World}
use Rattle.ref_definitions.specs.Fault.{Fault, as_invalid_uri, not_retrieved}
use Rattle.ref_definitions.specs.Places.{Place}
use Rattle.ref_definitions.specs.Resources.{meant_place}
use Rattle.ref_definitions.specs.Lookup.{Resolver, Found, lookup, at_fragment, moved_resolver}
use Rattle.ref_definitions.specs.Recursive.{is_marked, answers_marked, looked_up, outermost_marked, unless_fault_after, lookup_recursive}
use Rattle.ref_error.specs.declared.error.Error.{Error}
use Rattle.ref_error.specs.Errors.{IsFaultOf}
use Rattle.ref_resolver.proofs.Faults.{fault_ends, goes_on}

abbrev at_uri : World → Resolver → List ℕ → List ℕ → Result Found Fault
at_uri w r reference uri = ok_or (meant_place w uri) (not_retrieved uri) >>= λ place. at_fragment w (moved_resolver r uri) place (fragment_part reference)

-- a URI that is refused refuses the lookup
pub lookup_refused : (w : World) (r : Resolver) (reference : List ℕ) (e : Error) → IsFaultOf (as_invalid_uri (target r.base reference)) e → IsFaultOf (lookup w r reference) e
unfolding lookup
lookup_refused w r reference e is = fault_ends (as_invalid_uri (target r.base reference)) (at_uri w r reference) e is

at_target : (w : World) (r : Resolver) (reference uri : List ℕ) → target r.base reference ≡ Ok uri → lookup w r reference ≡ at_uri w r reference uri
unfolding lookup
at_target w r reference uri is = goes_on (as_invalid_uri (target r.base reference)) (at_uri w r reference) uri (ap as_invalid_uri is)

-- one that means no place
pub lookup_absent : (w : World) (r : Resolver) (reference uri : List ℕ) → target r.base reference ≡ Ok uri → meant_place w uri ≡ None → lookup w r reference ≡ Err (not_retrieved uri)
lookup_absent w r reference uri is none =
    at_target w r reference uri is ∙ ap (λ o. ok_or o (not_retrieved uri) >>= λ place. at_fragment w (moved_resolver r uri) place (fragment_part reference)) none

-- one that means a place
pub lookup_present : (w : World) (r : Resolver) (reference uri : List ℕ) (p : Place) → target r.base reference ≡ Ok uri → meant_place w uri ≡ Some p
    → lookup w r reference ≡ at_fragment w (moved_resolver r uri) p (fragment_part reference)
lookup_present w r reference uri p is some =
    at_target w r reference uri is ∙ ap (λ o. ok_or o (not_retrieved uri) >>= λ place. at_fragment w (moved_resolver r uri) place (fragment_part reference)) some

-- ---- the recursive lookup

-- its first lookup
pub recursive_refused : (w : World) (r : Resolver) (e : Error) → IsFaultOf (lookup w r (codes "#")) e → IsFaultOf (lookup_recursive w r) e
unfolding lookup_recursive
recursive_refused w r e is = fault_ends (lookup w r (codes "#")) (λ first. cond (is_marked first.value) (outermost_marked (Ok first) (looked_up w r)) (Ok first)) e is

pub recursive_first : (w : World) (r : Resolver) (f : Found) → lookup w r (codes "#") ≡ Ok f → is_marked f.value ≡ false → lookup_recursive w r ≡ Ok f
unfolding lookup_recursive
recursive_first w r f is unmarked =
    goes_on (lookup w r (codes "#")) (λ first. cond (is_marked first.value) (outermost_marked (Ok first) (looked_up w r)) (Ok first)) f is
    ∙ ap (λ t. cond t (outermost_marked (Ok f) (looked_up w r)) (Ok f)) unmarked

pub recursive_marked : (w : World) (r : Resolver) (f : Found) → lookup w r (codes "#") ≡ Ok f → is_marked f.value ≡ true → lookup_recursive w r ≡ outermost_marked (Ok f) (looked_up w r)
unfolding lookup_recursive
recursive_marked w r f is marked =
    goes_on (lookup w r (codes "#")) (λ first. cond (is_marked first.value) (outermost_marked (Ok first) (looked_up w r)) (Ok first)) f is
    ∙ ap (λ t. cond t (outermost_marked (Ok f) (looked_up w r)) (Ok f)) marked

last_from : {X : Type 0} (x e : X) (xs : List X) → unwrap_or (last_or (Some x) xs) e ≡ unwrap_or (last_or None xs) x
last_from x e [] = refl
last_from x e (y ∷ xs) = last_from y e xs ∙ sym (last_from y x xs)

one_more : (n : ℕ) → 1 + n ≡ suc n
one_more n = omega arith

-- another marked one stands for it
marked_step : (first a : Result Found Fault) (more : List (Result Found Fault)) → answers_marked a ≡ true → outermost_marked first (a ∷ more) ≡ outermost_marked a more
marked_step first a more is =
    let n = prefix_len answers_marked more in
    rw is
    (ap (λ k. unless_fault_after (drop k (a ∷ more)) (unwrap_or (last_or None (take k (a ∷ more))) first)) (one_more n)
    ∙ ap (unless_fault_after (drop n more)) (last_from a first (take n more)))

pub marked_turn : (first f : Found) (answer : Result Found Fault) (more : List (Result Found Fault)) → answer ≡ Ok f → is_marked f.value ≡ true → outermost_marked (Ok first) (answer ∷ more) ≡ outermost_marked (Ok f) more
marked_turn first f answer more is marked = ap (λ a. outermost_marked (Ok first) (a ∷ more)) is ∙ marked_step (Ok first) (Ok f) more marked

-- the last of a longest beginning that passes a test, or else another
pub while_step : {X : Type 0} (test : X → Bool) (x d : X) (xs : List X) → test x ≡ true → unwrap_or (last_or None (take_while test (x ∷ xs))) d ≡ unwrap_or (last_or None (take_while test xs)) x
while_step test x d xs is = let n = prefix_len test xs in rw is (ap (λ k. unwrap_or (last_or None (take k (x ∷ xs))) d) (one_more n) ∙ last_from x d (take n xs))

pub while_ended : {X : Type 0} (test : X → Bool) (x d : X) (xs : List X) → test x ≡ false → unwrap_or (last_or None (take_while test (x ∷ xs))) d ≡ d
while_ended test x d xs is = rw is refl

unmarked_step : (first a : Result Found Fault) (more : List (Result Found Fault)) → answers_marked a ≡ false → outermost_marked first (a ∷ more) ≡ unless_fault_after (a ∷ more) first
unmarked_step first a more is = rw is refl

-- one that is not ends it, and so does a fault
pub unmarked_turn : (first f : Found) (answer : Result Found Fault) (more : List (Result Found Fault)) → answer ≡ Ok f → is_marked f.value ≡ false → outermost_marked (Ok first) (answer ∷ more) ≡ Ok first
unmarked_turn first f answer more is unmarked = ap (λ a. outermost_marked (Ok first) (a ∷ more)) is ∙ unmarked_step (Ok first) (Ok f) more unmarked

pub fault_turn : (first : Found) (fault : Fault) (answer : Result Found Fault) (more : List (Result Found Fault)) → answer ≡ Err fault → outermost_marked (Ok first) (answer ∷ more) ≡ Err fault
fault_turn first fault answer more is = ap (λ a. outermost_marked (Ok first) (a ∷ more)) is ∙ unmarked_step (Ok first) (Err fault) more refl
