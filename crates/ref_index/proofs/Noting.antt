-- Places of which an index has nothing may be left out.
use Rattle.std.proofs.Common.{◌≡◌, ℕ, zero, suc, ◌+◌, ◌<◌, List, [], ◌∷◌, ◌++◌, map, flat_map, take, length, get_or, refl, sym, ap, subst, ◌∙◌, arith}
use Rattle.std.specs.List.{AllByRecursion, Contains}
use Rattle.std.proofs.lemmas.List.{take_more, map-append}
use Rattle.std.proofs.lemmas.List.Elements.{Contains-append_right}
use Rattle.ref_uri.specs.Targets.{Refusal}
use Rattle.ref_uri.specs.declared.error.UriFault.{UriFault}
use Rattle.ref_uri.specs.declared.error.UriFault.TheVariants.{Invalid, Memory}
use Rattle.ref_definitions.specs.World.{Document}
use Rattle.ref_definitions.specs.Places.{Place, root, places}
use Rattle.ref_definitions.specs.Resources.{resource_of}
use Rattle.ref_definitions.specs.Anchors.{named_under}
use Rattle.ref_definitions.specs.Cached.{identifier_pairs_at, reference_pairs_at}
use Rattle.ref_definitions.proofs.Standing.{all_are_there_where}
use Rattle.ref_index.specs.declared.found.Found.{Found}
use Rattle.ref_index.specs.declared.queue.Visit.{Visit}
use Rattle.ref_index.specs.Visit.{place_of}
use Rattle.ref_index.specs.Listed.{IsLeftOut, AreNoted, none, noted, left_out, IsListingOf, ChildrenAreAt, wants_of}
use Rattle.ref_index.specs.inner.Visits.{AddsPlaces, AllAreIn, IsWalked, names_of}
use Rattle.ref_index.specs.Faults.{IsFirstFault, faults_of}
use Rattle.ref_index.specs.Spots.{with_number}
use Rattle.ref_index.proofs.Visiting.{holds_same}

same_lists : {A : Type 0} (f : Place → List A) → ((p : Place) → IsLeftOut p → f p ≡ []) → (ps qs : List Place) → AreNoted ps qs → flat_map f qs ≡ flat_map f ps
same_lists f nothing _ _ none = refl
same_lists f nothing _ _ (noted p ps qs rest) = ap (λ l. f p ++ l) (same_lists f nothing ps qs rest)
same_lists f nothing _ _ (left_out p ps qs is rest) = same_lists f nothing ps qs rest ∙ ap (λ l. l ++ flat_map f ps) (sym (nothing p is))

all_noted : (P : Place → Type 0) (ps qs : List Place) → AreNoted ps qs → AllByRecursion P ps → AllByRecursion P qs
all_noted P _ _ none all = tt
all_noted P _ _ (noted p ps qs rest) all = (all.0, all_noted P ps qs rest all.1)
all_noted P _ _ (left_out p ps qs is rest) all = all_noted P ps qs rest all.1

both_empty : {A : Type 0} (xs ys : List A) → xs ++ ys ≡ [] → (xs ≡ []) × (ys ≡ [])
both_empty [] ys is = (refl, is)
both_empty (x ∷ xs) ys is = cc

each_faultless : (ps : List Place) → flat_map faults_of ps ≡ [] → AllByRecursion (λ p. faults_of p ≡ []) ps
each_faultless [] is = tt
each_faultless (p ∷ ps) is =
    let both = both_empty (faults_of p) (flat_map faults_of ps) is in
    (both.0, each_faultless ps both.1)

by_each : (P : Place → Type 0) (ps : List Place) → ((p : Place) → Contains ps p → P p) → AllByRecursion P ps
by_each P [] each = tt
by_each P (p ∷ ps) each = (each p (0, omega arith, refl), by_each P ps (λ q there. each q (Contains-append_right (p ∷ []) ps q there)))

pub noted_are_there : (d : Document) (below : List Place) → IsListingOf d below → AllAreIn d (root d ∷ below)
noted_are_there d below is = all_noted _ (places d) (root d ∷ below) is.noted (all_are_there_where d is.children)

pub noted_faultless : (d : Document) (below : List Place) → IsListingOf d below → AllByRecursion (λ p. faults_of p ≡ []) (root d ∷ below)
noted_faultless d below is = all_noted (λ p. faults_of p ≡ []) (places d) (root d ∷ below) is.noted (each_faultless (places d) is.faultless)

pub memory_alone : (fs gs : List Refusal) (fault : UriFault) → fs ≡ [] → IsFirstFault fs fault → IsFirstFault gs fault
memory_alone fs gs (Invalid error) empty (refusal, more, is, says) =
    let never : [] ≡ refusal ∷ more = sym empty ∙ is in
    cc
memory_alone fs gs (Memory error) empty is = tt

pub all_walked : (d : Document) (number : ℕ) (old new : Found) (below : List Place) → IsListingOf d below → AddsPlaces d number (root d ∷ below) old new → IsWalked d number old new (places d)
all_walked d number old new below is adds = record {
  added = λ layer held there holds.
      holds_same layer new _ _ (ap (λ l. held.resources ++ with_number number ((d.uri, root d) ∷ l)) (same_lists resource_of (λ p left. left.resource) (places d) (root d ∷ below) is.noted))
      (ap (λ l. held.names ++ with_number number (named_under d.uri (root d) ++ l)) (same_lists names_of (λ p left. left.name) (places d) (root d ∷ below) is.noted))
      (ap (λ l. held.wants ++ l) (same_lists wants_of (λ p left. left.want) (places d) (root d ∷ below) is.noted))
      (ap (λ l. held.identifiers ++ l) (same_lists identifier_pairs_at (λ p left. (both_empty (identifier_pairs_at p) (reference_pairs_at p) left.pair).0) (places d) (root d ∷ below) is.noted))
      (ap (λ l. held.references ++ l) (same_lists reference_pairs_at (λ p left. (both_empty (identifier_pairs_at p) (reference_pairs_at p) left.pair).1) (places d) (root d ∷ below) is.noted))
      (adds layer held there holds);
  faultless = is.faultless;
  children = by_each ChildrenAreAt (places d) is.children;
}

-- ---- one of several

all_here : {X Y : Type 0} (P : Y → Type 0) (f : X → Y) (xs : List X) (i : ℕ) (d : X) → AllByRecursion P (map f xs) → i < length xs → P (f (get_or xs i d))
all_here P f [] i d all within = absurd (omega (arith, within))
all_here P f (x ∷ xs) zero d all within = all.0
all_here P f (x ∷ xs) (suc i) d all within = all_here P f xs i d all.1 (omega (arith, within))

-- what holds of each of a list holds of the one at a place
pub all_at : {X Y : Type 0} (P : Y → Type 0) (f : X → Y) (xs : List X) (i : ℕ) (x : X) → AllByRecursion P (map f xs) → i < length xs → x ≡ get_or xs i x → P (f x)
all_at P f xs i x all within is = subst (λ y. P (f y)) (sym is) (all_here P f xs i x all within)

pub taken_more : (vs : List Visit) (i : ℕ) (v : Visit) → i < length vs → v ≡ get_or vs i v → map place_of (take (i + 1) vs) ≡ map place_of (take i vs) ++ place_of v ∷ []
taken_more vs i v within is =
    ap (map place_of) (take_more vs i v within) ∙ map-append place_of (take i vs) (get_or vs i v ∷ []) ∙ ap (λ w. map place_of (take i vs) ++ place_of w ∷ []) (sym is)
