-- Whether a URI means a place, by what was found and by parents.
use Rattle.std.proofs.Common.{◌≡◌, ℕ, zero, suc, ◌+◌, ◌<◌, ◌≤◌, arith, subst, Bool, true, false, ◌||◌, cond, List, [], ◌∷◌, ◌++◌, map, take, drop, length, get_or, filter, Option, Some, None, is_some, refl, sym, ap, ◌∙◌, bytes_eq}
use Rattle.std.specs.Prelude.{slice_get}
use Rattle.std.specs.List.{list_any, last_or, AllByRecursion}
use Rattle.std.proofs.lemmas.List.{map_more, take-map, drop-append-le, length-map, length-take-le}
use Rattle.std.specs.Option.{option_map_or}
use Rattle.std.specs.HashSet.{contains}
use Rattle.std.specs.declared.alloc.Global.{Global}
use Rattle.std.specs.declared.rc.Rc.{Rc}
use Rattle.ref_definitions.specs.World.{Layer, World}
use Rattle.ref_definitions.specs.Places.{Place}
use Rattle.ref_definitions.specs.Resources.{last_under, resources, meant_place}
use Rattle.ref_definitions.proofs.Last.{last_there}
use Rattle.ref_index.specs.declared.found.Found.{Found}
use Rattle.ref_index.specs.Spots.{numbered_resources}
use Rattle.ref_index.specs.inner.Found.{FoundLists, Holds, is_same}
use Rattle.ref_index.proofs.Spots.{known_alike}

any_step : (r : List ℕ × Place) (rs : List (List ℕ × Place)) (test : List ℕ × Place → Bool) (here : Bool) → list_any test rs ≡ is_some (last_or None (filter test rs))
    → (here || list_any test rs) ≡ is_some (last_or None (cond here (r ∷ filter test rs) (filter test rs)))
any_step r rs test true rest = sym (last_there r (filter test rs))
any_step r rs test false rest = rest

any_last : (test : List ℕ × Place → Bool) (rs : List (List ℕ × Place)) → list_any test rs ≡ is_some (last_or None (filter test rs))
any_last test [] = refl
any_last test (r ∷ rs) = any_step r rs test (test r) (any_last test rs)

one_or : (entry : Option (List ℕ × Place)) (behind : Option Place) → is_some (option_map_or (λ e. Some e.1) entry behind) ≡ (is_some entry || is_some behind)
one_or None behind = refl
one_or (Some e) behind = refl

-- of the nearest layer, and of those after it
meaning_or : (layer : Layer) (parents : World) (uri : List ℕ) → is_some (meant_place (layer ∷ parents) uri) ≡ (is_some (last_under uri (resources layer)) || is_some (meant_place parents uri))
meaning_or layer parents uri = one_or (last_under uri (resources layer)) (meant_place parents uri)

known_is : (uri : List ℕ) (rs : List (List ℕ × Place)) → list_any (λ (r : List ℕ × Place). bytes_eq r.0 uri) rs ≡ is_some (last_under uri rs)
known_is uri rs = any_last (λ r. bytes_eq r.0 uri) rs

-- a URI means a place where it is among those found, or where one of the parents has it
pub meant_or : (layer : Layer) (parents : World) (f : Found) (held : FoundLists) (uri : Rc (List ℕ) Global) (known : Bool) → Holds layer f held → held.resources ≡ numbered_resources layer → known ≡ contains is_same f.identified uri
    → is_some (meant_place (layer ∷ parents) uri.value) ≡ (known || is_some (meant_place parents uri.value))
meant_or layer parents f held uri known holds same is =
    meaning_or layer parents uri.value
    ∙ ap (λ b. b || is_some (meant_place parents uri.value))
    (sym (known_is uri.value (resources layer)) ∙ sym (holds.known uri ∙ ap (list_any (λ (r : ℕ × (List ℕ × Place)). bytes_eq r.1.0 uri.value)) same ∙ known_alike uri.value layer) ∙ sym is)

-- ---- wants in turn

all_push : {X : Type 0} (P : X → Type 0) (xs : List X) (x : X) → AllByRecursion P xs → P x → AllByRecursion P (xs ++ x ∷ [])
all_push P [] x all here = (here, tt)
all_push P (y ∷ xs) x all here = (all.0, all_push P xs x all.1 here)

-- what holds of the wants from a number on, and of the next
pub one_more_met : {W X : Type 0} (P : X → Type 0) (from i : ℕ) (items : List W) (xs : List X) (w : W) (f : W → X) → map f items ≡ xs → from ≤ i → i < length items → w ≡ get_or items i w → P (f w)
    → AllByRecursion P (drop from (take i xs)) → AllByRecursion P (drop from (take (i + 1) xs))
one_more_met P from i items xs w f is le within at here all =
    let long : length xs ≡ length items = sym (ap length is) ∙ length-map items f in
    let next : take (i + 1) xs ≡ take i xs ++ f w ∷ [] =
    ap (take (i + 1)) (sym is) ∙ take-map f (i + 1) items ∙ map_more f items i w within ∙ ap (λ v. map f (take i items) ++ f v ∷ []) (sym at) ∙ ap (λ l. l ++ f w ∷ []) (sym (take-map f i items) ∙ ap (take i) is) in
    let split : drop from (take (i + 1) xs) ≡ drop from (take i xs) ++ f w ∷ [] =
    ap (drop from) next ∙ drop-append-le from (take i xs) (f w ∷ []) (omega (arith, long, length-take-le i xs (omega (arith, long)))) in
    subst (AllByRecursion P) (sym split) (all_push P (drop from (take i xs)) (f w) all here)

-- an element of the list that a function makes is that of the element there
pub mapped_at : {W X : Type 0} (f : W → X) (items : List W) (i : ℕ) (v : W) (x : X) → i < length items → v ≡ get_or items i v → slice_get (map f items) i ≡ Some x → f v ≡ x
mapped_at f [] i v x within at there = absurd (omega arith)
mapped_at f (y ∷ ys) zero v x within at there = (let same : f y ≡ x = cc in ap f at ∙ same)
mapped_at f (y ∷ ys) (suc i) v x within at there = mapped_at f ys i v x (omega arith) at there

-- nothing is past the end
pub none_past : {X : Type 0} (xs : List X) (i : ℕ) (x : X) (Q : Type 0) → length xs ≤ i → slice_get xs i ≡ Some x → Q
none_past [] i x Q le is = cc
none_past (y ∷ xs) zero x Q le is = absurd (omega arith)
none_past (y ∷ xs) (suc i) x Q le is = none_past xs i x Q (omega arith) is

-- what holds before a number, and from it on up to another, holds up to that one
pub all_up_to : {X : Type 0} (P : X → Type 0) (from n : ℕ) (xs : List X) → from ≤ n → AllByRecursion P (take from xs) → AllByRecursion P (drop from (take n xs)) → AllByRecursion P (take n xs)
all_up_to P zero n xs le front rest = rest
all_up_to P (suc k) zero xs le front rest = absurd (omega arith)
all_up_to P (suc k) (suc n) [] le front rest = tt
all_up_to P (suc k) (suc n) (x ∷ xs) le front rest = (front.0, all_up_to P k n xs (omega arith) front.1 rest)

kept : {X : Type 0} (b : Bool) (x : X) (xs : List X) → b ≡ true → cond b (x ∷ xs) xs ≡ x ∷ xs
kept true x xs is = refl
kept false x xs is = cc

left_out : {X : Type 0} (b : Bool) (x : X) (xs : List X) → b ≡ false → cond b (x ∷ xs) xs ≡ xs
left_out true x xs is = cc
left_out false x xs is = refl

-- the first that passes a test: none before it does
pub first_passes : {X : Type 0} (test : X → Bool) (n : ℕ) (xs : List X) (w : X) → AllByRecursion (λ x. test x ≡ false) (take n xs) → slice_get xs n ≡ Some w → test w ≡ true → filter test xs ≡ w ∷ filter test (drop (suc n) xs)
first_passes test n [] w none there is = cc
first_passes test zero (x ∷ xs) w none there is = (let same : x ≡ w = cc in kept (test x) x (filter test xs) (ap test same ∙ is) ∙ ap (λ y. y ∷ filter test xs) same)
first_passes test (suc n) (x ∷ xs) w none there is = left_out (test x) x (filter test xs) none.0 ∙ first_passes test n xs w none.1 there is

-- where none does up to the end, none is left
pub none_passes : {X : Type 0} (test : X → Bool) (n : ℕ) (xs : List X) → AllByRecursion (λ x. test x ≡ false) (take n xs) → slice_get xs n ≡ None → filter test xs ≡ []
none_passes test n [] none end = refl
none_passes test zero (x ∷ xs) none end = cc
none_passes test (suc n) (x ∷ xs) none end = left_out (test x) x (filter test xs) none.0 ∙ none_passes test n xs none.1 end
