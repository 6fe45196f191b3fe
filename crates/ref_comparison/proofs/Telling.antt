-- What is told first.
use Rattle.std.proofs.Common.{◌≡◌, ℕ, zero, suc, ◌+◌, ◌<◌, ◌≤◌, Bool, true, false, cond, List, [], ◌∷◌, ◌++◌, flat_map, drop, length, get_or, slice_get, Option, None, Some, Result, Ok, Err, refl, sym, ap, ◌∙◌, arith}
use Rattle.std.proofs.lemmas.Option.{slice_get_within, get_or_from_slice_get}
use Rattle.std.proofs.lemmas.List.{drop_all}
use Rattle.std.proofs.lemmas.List.Concat.{flat_map-append}
use Rattle.ref_descriptions.specs.References.{Reference, references}
use Rattle.ref_reach.specs.Places.{Place}
use Rattle.ref_changes.specs.Changes.{first}
use Rattle.ref_changes.proofs.Firsts.{first_front, first_past}
use Rattle.ref_changes.proofs.Lists.{dropped}
use Rattle.ref_comparison.specs.declared.difference.What as rust_what
use Rattle.ref_comparison.specs.declared.difference.Difference as rust_difference
use Rattle.ref_comparison.specs.Further.{Sides, What, OtherReferences, Difference, is_same_place, text_whats, reference_whats, is_image, is_base_kept, whats_among}
use Rattle.ref_comparison.specs.inner.Firsts.{SaysFirst, DiffersFirst}
use Rattle.ref_comparison.specs.inner.Pairs.{pair_whats, whats_at}

-- an element, and those after it
dropped_at : {X : Type 0} (xs : List X) (i : ℕ) (x : X) → i < length xs → x ≡ get_or xs i x → drop i xs ≡ x ∷ drop (i + 1) xs
dropped_at xs i x within is = dropped xs i x within ∙ ap (λ y. y ∷ drop (i + 1) xs) (sym is)

-- ---- two references, and those after them

-- where nothing differs of two, the first of those after them is first
none_here : (s : Sides) (p q : Place) (r t : Reference) (rs ts : List Reference) → None ≡ first (pair_whats s p q r t)
    → first (reference_whats s p q (r ∷ rs) (t ∷ ts)) ≡ first (reference_whats s p q rs ts)
none_here s p q r t rs ts none = by_place (is_same_place r t) (text_whats s p q r r.text t.text) (reference_whats s p q rs ts) none
  where
    by_place : (b : Bool) (xs ys : List What) → None ≡ first (cond b xs (OtherReferences ∷ [])) → first (cond b (xs ++ ys) (OtherReferences ∷ [])) ≡ first ys
    by_place true xs ys none = first_past xs ys (sym none)
    by_place false xs ys none = cc

-- what differs of them is first
some_here : (s : Sides) (p q : Place) (r t : Reference) (rs ts : List Reference) (w : What) → Some w ≡ first (pair_whats s p q r t)
    → Some w ≡ first (reference_whats s p q (r ∷ rs) (t ∷ ts))
some_here s p q r t rs ts w some = by_place (is_same_place r t) (text_whats s p q r r.text t.text) (reference_whats s p q rs ts) some
  where
    by_place : (b : Bool) (xs ys : List What) → Some w ≡ first (cond b xs (OtherReferences ∷ [])) → Some w ≡ first (cond b (xs ++ ys) (OtherReferences ∷ []))
    by_place true xs ys some = first_front xs ys w some
    by_place false xs ys some = some

-- what differs first from an index on
abbrev pub first_from : Sides → Place → Place → List Reference → List Reference → ℕ → Option What
first_from s p q rs ts i = first (reference_whats s p q (drop i rs) (drop i ts))

none_past : {X : Type 0} (xs : List X) (i : ℕ) → slice_get xs i ≡ None → length xs ≤ i
none_past [] i is = omega arith
none_past (x ∷ xs) zero is = cc
none_past (x ∷ xs) (suc i) is = let rest = none_past xs i is in omega (arith, rest)

get_some : {X : Type 0} (xs : List X) (i : ℕ) (x : X) → slice_get xs i ≡ Some x → drop i xs ≡ x ∷ drop (i + 1) xs
get_some xs i x is = dropped_at xs i x (slice_get_within xs i x is) (sym (get_or_from_slice_get xs i x x is))

get_none : {X : Type 0} (xs : List X) (i : ℕ) → slice_get xs i ≡ None → drop i xs ≡ []
get_none xs i is = drop_all i xs (none_past xs i is)

both_at : (s : Sides) (p q : Place) (rs ts : List Reference) (i : ℕ) (xs ys : List Reference) → drop i rs ≡ xs → drop i ts ≡ ys → first_from s p q rs ts i ≡ first (reference_whats s p q xs ys)
both_at s p q rs ts i xs ys is are = ap (λ l. first (reference_whats s p q l (drop i ts))) is ∙ ap (λ l. first (reference_whats s p q xs l)) are

pub found_at : (s : Sides) (p q : Place) (rs ts : List Reference) (i : ℕ) (w : What) → Some w ≡ first (whats_at s p q (slice_get rs i) (slice_get ts i)) → Some w ≡ first_from s p q rs ts i
found_at s p q rs ts i w some = by_both (slice_get rs i) (slice_get ts i) refl refl some
  where
    by_both : (o n : Option Reference) → slice_get rs i ≡ o → slice_get ts i ≡ n → Some w ≡ first (whats_at s p q o n) → Some w ≡ first_from s p q rs ts i
    by_both (Some r) (Some t) is are some =
        some_here s p q r t (drop (i + 1) rs) (drop (i + 1) ts) w some
        ∙ sym (both_at s p q rs ts i (r ∷ drop (i + 1) rs) (t ∷ drop (i + 1) ts) (get_some rs i r is) (get_some ts i t are))
    by_both (Some r) None is are some = some ∙ sym (both_at s p q rs ts i (r ∷ drop (i + 1) rs) [] (get_some rs i r is) (get_none ts i are))
    by_both None (Some t) is are some = some ∙ sym (both_at s p q rs ts i [] (t ∷ drop (i + 1) ts) (get_none rs i is) (get_some ts i t are))
    by_both None None is are some = cc

pub past_at : (s : Sides) (p q : Place) (rs ts : List Reference) (i : ℕ) → i < length rs → None ≡ first (whats_at s p q (slice_get rs i) (slice_get ts i))
    → first_from s p q rs ts i ≡ first_from s p q rs ts (i + 1)
past_at s p q rs ts i within none = by_both (slice_get rs i) (slice_get ts i) refl refl none
  where
    by_both : (o n : Option Reference) → slice_get rs i ≡ o → slice_get ts i ≡ n → None ≡ first (whats_at s p q o n) → first_from s p q rs ts i ≡ first_from s p q rs ts (i + 1)
    by_both (Some r) (Some t) is are none =
        both_at s p q rs ts i (r ∷ drop (i + 1) rs) (t ∷ drop (i + 1) ts) (get_some rs i r is) (get_some ts i t are)
        ∙ none_here s p q r t (drop (i + 1) rs) (drop (i + 1) ts) none
    by_both (Some r) None is are none = cc
    by_both None (Some t) is are none = cc
    by_both None None is are none = let past = none_past rs i is in absurd (omega (arith, within, past))

-- where the first list ends
pub end_at : (s : Sides) (p q : Place) (rs ts : List Reference) (i : ℕ) → length rs ≤ i → first (whats_at s p q (slice_get rs i) (slice_get ts i)) ≡ first_from s p q rs ts i
end_at s p q rs ts i past = by_both (slice_get rs i) (slice_get ts i) refl refl
  where
    by_both : (o n : Option Reference) → slice_get rs i ≡ o → slice_get ts i ≡ n → first (whats_at s p q o n) ≡ first_from s p q rs ts i
    by_both None None is are = sym (both_at s p q rs ts i [] [] (get_none rs i is) (get_none ts i are))
    by_both None (Some t) is are = sym (both_at s p q rs ts i [] (t ∷ drop (i + 1) ts) (get_none rs i is) (get_some ts i t are))
    by_both (Some r) n is are = let within = slice_get_within rs i r is in absurd (omega (arith, within, past))

-- a call that returns the first of some returns the first of others that begin alike
pub says : {E : Type 0} (result : Result (Option rust_what.What) E) (xs ys : List What) → first xs ≡ first ys → SaysFirst result xs → SaysFirst result ys
says (Ok o) xs ys same is = is ∙ same
says (Err e) xs ys same is = tt

-- ---- places after

-- one that isn't where the place moved, or is read otherwise
pub image_passed : (s : Sides) (p q : Place) (more : List Place) (b : Bool) → is_image s p q ≡ false → whats_among s p (q ∷ more) b ≡ whats_among s p more b
image_passed s p q more b is =
    ap (λ c. cond c (cond (is_base_kept s p q) (reference_whats s p q (references p.reading p.value) (references q.reading q.value)) (whats_among s p more true)) (whats_among s p more b)) is

-- one with another base
other_base : (s : Sides) (p q : Place) (more : List Place) (b : Bool) → is_image s p q ≡ true → is_base_kept s p q ≡ false → whats_among s p (q ∷ more) b ≡ whats_among s p more true
other_base s p q more b is base =
    ap (λ c. cond c (cond (is_base_kept s p q) (reference_whats s p q (references p.reading p.value) (references q.reading q.value)) (whats_among s p more true)) (whats_among s p more b)) is
    ∙ ap (λ c. cond c (reference_whats s p q (references p.reading p.value) (references q.reading q.value)) (whats_among s p more true)) base

-- one with the same
same_base : (s : Sides) (p q : Place) (more : List Place) (b : Bool) → is_image s p q ≡ true → is_base_kept s p q ≡ true
    → whats_among s p (q ∷ more) b ≡ reference_whats s p q (references p.reading p.value) (references q.reading q.value)
same_base s p q more b is base =
    ap (λ c. cond c (cond (is_base_kept s p q) (reference_whats s p q (references p.reading p.value) (references q.reading q.value)) (whats_among s p more true)) (whats_among s p more b)) is
    ∙ ap (λ c. cond c (reference_whats s p q (references p.reading p.value) (references q.reading q.value)) (whats_among s p more true)) base

-- what differs by those from an index on
abbrev pub among_from : {X : Type 0} → (X → List Place) → Sides → Place → List X → ℕ → Bool → List What
among_from f s p xs i b = whats_among s p (flat_map f (drop i xs)) b

-- where there is no place with the number
pub no_place : {X : Type 0} (f : X → List Place) (s : Sides) (p : Place) (xs : List X) (i : ℕ) (x : X) (b : Bool) → i < length xs → x ≡ get_or xs i x
    → f x ≡ [] → among_from f s p xs i b ≡ among_from f s p xs (i + 1) b
no_place f s p xs i x b within is none =
    ap (λ l. whats_among s p (flat_map f l) b) (dropped_at xs i x within is) ∙ ap (λ l. whats_among s p (l ++ flat_map f (drop (i + 1) xs)) b) none

one_place : {X : Type 0} (f : X → List Place) (s : Sides) (p : Place) (xs : List X) (i : ℕ) (x : X) (q : Place) (b : Bool) → i < length xs → x ≡ get_or xs i x
    → f x ≡ q ∷ [] → among_from f s p xs i b ≡ whats_among s p (q ∷ flat_map f (drop (i + 1) xs)) b
one_place f s p xs i x q b within is one =
    ap (λ l. whats_among s p (flat_map f l) b) (dropped_at xs i x within is) ∙ ap (λ l. whats_among s p (l ++ flat_map f (drop (i + 1) xs)) b) one

pub not_image : {X : Type 0} (f : X → List Place) (s : Sides) (p : Place) (xs : List X) (i : ℕ) (x : X) (q : Place) (b : Bool) → i < length xs → x ≡ get_or xs i x
    → f x ≡ q ∷ [] → is_image s p q ≡ false → among_from f s p xs i b ≡ among_from f s p xs (i + 1) b
not_image f s p xs i x q b within is one image = one_place f s p xs i x q b within is one ∙ image_passed s p q (flat_map f (drop (i + 1) xs)) b image

pub not_base : {X : Type 0} (f : X → List Place) (s : Sides) (p : Place) (xs : List X) (i : ℕ) (x : X) (q : Place) (b : Bool) → i < length xs → x ≡ get_or xs i x
    → f x ≡ q ∷ [] → is_image s p q ≡ true → is_base_kept s p q ≡ false → among_from f s p xs i b ≡ among_from f s p xs (i + 1) true
not_base f s p xs i x q b within is one image base = one_place f s p xs i x q b within is one ∙ other_base s p q (flat_map f (drop (i + 1) xs)) b image base

pub at_base : {X : Type 0} (f : X → List Place) (s : Sides) (p : Place) (xs : List X) (i : ℕ) (x : X) (q : Place) (b : Bool) → i < length xs → x ≡ get_or xs i x
    → f x ≡ q ∷ [] → is_image s p q ≡ true → is_base_kept s p q ≡ true
    → among_from f s p xs i b ≡ reference_whats s p q (references p.reading p.value) (references q.reading q.value)
at_base f s p xs i x q b within is one image base = one_place f s p xs i x q b within is one ∙ same_base s p q (flat_map f (drop (i + 1) xs)) b image base

pub none_left : {X : Type 0} (f : X → List Place) (s : Sides) (p : Place) (xs : List X) (i : ℕ) (b : Bool) → length xs ≤ i → among_from f s p xs i b ≡ whats_among s p [] b
none_left f s p xs i b all = ap (λ l. whats_among s p (flat_map f l) b) (drop_all i xs all)

-- ---- three lists of places

pub three : {A : Type 0} (f : Place → List A) (xs ys zs : List Place) → flat_map f ((xs ++ ys) ++ zs) ≡ (flat_map f xs ++ flat_map f ys) ++ flat_map f zs
three f xs ys zs = flat_map-append f (xs ++ ys) zs ∙ ap (λ l. l ++ flat_map f zs) (flat_map-append f xs ys)

pub in_first : {A : Type 0} (f : Place → List A) (xs ys zs : List Place) (a : A) → Some a ≡ first (flat_map f xs) → Some a ≡ first (flat_map f ((xs ++ ys) ++ zs))
in_first f xs ys zs a is =
    first_front (flat_map f xs ++ flat_map f ys) (flat_map f zs) a (first_front (flat_map f xs) (flat_map f ys) a is) ∙ sym (ap first (three f xs ys zs))

pub in_second : {A : Type 0} (f : Place → List A) (xs ys zs : List Place) (a : A) → None ≡ first (flat_map f xs) → Some a ≡ first (flat_map f ys)
    → Some a ≡ first (flat_map f ((xs ++ ys) ++ zs))
in_second f xs ys zs a none is =
    first_front (flat_map f xs ++ flat_map f ys) (flat_map f zs) a (is ∙ sym (first_past (flat_map f xs) (flat_map f ys) (sym none))) ∙ sym (ap first (three f xs ys zs))

pub in_third : {E : Type 0} (result : Result (Option rust_difference.Difference) E) (f : Place → List Difference) (xs ys zs : List Place)
    → None ≡ first (flat_map f xs) → None ≡ first (flat_map f ys) → DiffersFirst result (flat_map f zs) → DiffersFirst result (flat_map f ((xs ++ ys) ++ zs))
in_third (Ok d) f xs ys zs none neither given =
    given
    ∙ sym (first_past (flat_map f xs ++ flat_map f ys) (flat_map f zs) (first_past (flat_map f xs) (flat_map f ys) (sym none) ∙ sym neither))
    ∙ sym (ap first (three f xs ys zs))
in_third (Err e) f xs ys zs none neither given = tt

-- a call that returns the first of a list returns that of an equal one
pub differs : {E : Type 0} (result : Result (Option rust_difference.Difference) E) (xs ys : List Difference) → xs ≡ ys → DiffersFirst result xs → DiffersFirst result ys
differs (Ok d) xs ys same is = is ∙ ap first same
differs (Err e) xs ys same is = tt
