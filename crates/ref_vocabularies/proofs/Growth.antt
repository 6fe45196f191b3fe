-- Sets contain what is added to them, in whatever order.
use Rattle.std.proofs.Common.{◌≡◌, ℕ, Bool, true, false, ◌||◌, List, [], ◌∷◌, filter, bytes_eq, refl, sym, ◌∙◌, ap}
use Rattle.std.specs.Ordering.{match_ordering}
use Rattle.std.specs.declared.cmp.Ordering.TheVariants.{Less, Equal, Greater}
use Rattle.std.specs.Cmp.{tied_itself}
use Rattle.std.specs.Cmp.Lexicographic.{pointwise, nat_list_cmp_total}
use Rattle.std.proofs.lemmas.Bool.{and_parts, false≢true}
use Rattle.std.proofs.lemmas.Slice.Eq.{bytes_eq-Decides}
use Rattle.ref_vocabularies.specs.Vocabularies.{Known, all_known, known_eq, has_known, Vocabulary, Standard, Custom, vocabulary_eq, VocabularySet, set_eq, with_uri, has_uri, contains, with_vocabulary}
use Rattle.ref_vocabularies.proofs.Bits.{known_eq-is, has_known-filter, filter-same, same_lists}
use Rattle.ref_vocabularies.proofs.Sorted.{order, after, before, same, equal, put-less, put-equal, put-greater}

or-false : (b : Bool) → b ≡ (b || false)
or-false true = refl
or-false false = refl

or-swap : (a b : Bool) → (a || b) ≡ (b || a)
or-swap true true = refl
or-swap true false = refl
or-swap false true = refl
or-swap false false = refl

or-last : (a b c : Bool) → ((a || b) || c) ≡ ((a || c) || b)
or-last true b c = refl
or-last false b c = or-swap b c

or-again : (a b : Bool) → (a || b) ≡ ((a || b) || a)
or-again true b = refl
or-again false b = or-false b

or-group : (a b c : Bool) → (a || (b || c)) ≡ ((a || b) || c)
or-group true b c = refl
or-group false b c = refl

or-twice : (a b : Bool) → ((a || b) || b) ≡ (a || b)
or-twice true b = refl
or-twice false true = refl
or-twice false false = refl

tied : (u v : List ℕ) → order u v ≡ Equal → u ≡ v
tied u v e = (bytes_eq-Decides u v).0 (rw (equal u v, e) refl)

itself : (u : List ℕ) → order u u ≡ Equal
itself u = tied_itself nat_list_cmp_total u

-- what is there once a URI is put
has_uri-put : (u w : List ℕ) (uris : List (List ℕ)) → has_uri (with_uri u uris) w ≡ (has_uri uris w || bytes_eq u w)
has_uri-put u w [] = sym (or-false (bytes_eq u w))
has_uri-put u w (x ∷ xs) =
    elim (order u x) as (λ o. order u x ≡ o → has_uri (match_ordering o (u ∷ x ∷ xs) (x ∷ xs) (x ∷ with_uri u xs)) w ≡ (has_uri (x ∷ xs) w || bytes_eq u w)) [
      | Less ↦ λ e. or-swap (bytes_eq u w) (has_uri (x ∷ xs) w)
      | Equal ↦ λ e. or-again (bytes_eq x w) (has_uri xs w) ∙ ap (λ v. has_uri (x ∷ xs) w || bytes_eq v w) (sym (tied u x e))
      | Greater ↦ λ e. ap (λ b. bytes_eq x w || b) (has_uri-put u w xs) ∙ or-group (bytes_eq x w) (has_uri xs w) (bytes_eq u w)
    ] refl

pub contains-with : (s : VocabularySet) (v w : Vocabulary) → contains (with_vocabulary s v) w ≡ (contains s w || vocabulary_eq v w)
contains-with s (Standard k) (Standard j) = has_known-filter (λ l. has_known s.standard l || known_eq k l) j
contains-with s (Standard k) (Custom u) = or-false (has_uri s.customs u)
contains-with s (Custom u) (Standard k) = or-false (has_known s.standard k)
contains-with s (Custom u) (Custom w) = has_uri-put u w s.customs

-- two URIs are put in either order: first where one is before the next URI
earlier_first : (u w x : List ℕ) (xs : List (List ℕ)) → order u x ≡ Less → with_uri w (with_uri u (x ∷ xs)) ≡ with_uri u (with_uri w (x ∷ xs))
earlier_first u w x xs e =
    rw (put-less u x xs e)
    (elim (order w u) as (λ o. order w u ≡ o → match_ordering o (w ∷ u ∷ x ∷ xs) (u ∷ x ∷ xs) (u ∷ with_uri w (x ∷ xs)) ≡ with_uri u (with_uri w (x ∷ xs))) [
      | Less ↦ λ d.
          sym (ap (with_uri u) (put-less w x xs (nat_list_cmp_total.trans w u x d e)) ∙ put-greater u w (x ∷ xs) (after w u d) ∙ ap (λ r. w ∷ r) (put-less u x xs e))
      | Equal ↦ λ d. ap (λ v. v ∷ x ∷ xs) (sym (tied w u d)) ∙ sym (ap (with_uri u) (put-less w x xs (ap (λ v. order v x) (tied w u d) ∙ e)) ∙ put-equal u w (x ∷ xs) (same w u d))
      | Greater ↦ λ d. later d
    ] refl)
  where
    later : order w u ≡ Greater → u ∷ with_uri w (x ∷ xs) ≡ with_uri u (with_uri w (x ∷ xs))
    later d =
        elim (order w x) as (λ o. order w x ≡ o → u ∷ match_ordering o (w ∷ x ∷ xs) (x ∷ xs) (x ∷ with_uri w xs) ≡ with_uri u (match_ordering o (w ∷ x ∷ xs) (x ∷ xs) (x ∷ with_uri w xs))) [
          | Less ↦ λ f. sym (put-less u w (x ∷ xs) (before w u d))
          | Equal ↦ λ f. sym (put-less u x xs e)
          | Greater ↦ λ f. sym (put-less u x (with_uri w xs) e)
        ] refl

put-swap : (u w : List ℕ) (uris : List (List ℕ)) → with_uri w (with_uri u uris) ≡ with_uri u (with_uri w uris)
put-swap u w [] =
    elim (order w u) as (λ o. order w u ≡ o → match_ordering o (w ∷ u ∷ []) (u ∷ []) (u ∷ w ∷ []) ≡ with_uri u (w ∷ [])) [
      | Less ↦ λ d. sym (put-greater u w [] (after w u d))
      | Equal ↦ λ d. ap (λ v. v ∷ []) (sym (tied w u d)) ∙ sym (put-equal u w [] (same w u d))
      | Greater ↦ λ d. sym (put-less u w [] (before w u d))
    ] refl
put-swap u w (x ∷ xs) =
    elim (order u x) as (λ o. order u x ≡ o → with_uri w (with_uri u (x ∷ xs)) ≡ with_uri u (with_uri w (x ∷ xs))) [
      | Less ↦ λ e. earlier_first u w x xs e
      | Equal ↦ λ e. here e
      | Greater ↦ λ e. there e (put-swap u w xs)
    ] refl
  where
    here : order u x ≡ Equal → with_uri w (with_uri u (x ∷ xs)) ≡ with_uri u (with_uri w (x ∷ xs))
    here e =
        elim (order w x) as (λ o. order w x ≡ o → with_uri w (with_uri u (x ∷ xs)) ≡ with_uri u (with_uri w (x ∷ xs))) [
          | Less ↦ λ d. sym (earlier_first w u x xs d)
          | Equal ↦ λ d. ap (with_uri w) (put-equal u x xs e) ∙ put-equal w x xs d ∙ sym (ap (with_uri u) (put-equal w x xs d) ∙ put-equal u x xs e)
          | Greater ↦ λ d. ap (with_uri w) (put-equal u x xs e) ∙ put-greater w x xs d ∙ sym (ap (with_uri u) (put-greater w x xs d) ∙ put-equal u x (with_uri w xs) e)
        ] refl

    there : order u x ≡ Greater → with_uri w (with_uri u xs) ≡ with_uri u (with_uri w xs) → with_uri w (with_uri u (x ∷ xs)) ≡ with_uri u (with_uri w (x ∷ xs))
    there e swapped =
        elim (order w x) as (λ o. order w x ≡ o → with_uri w (with_uri u (x ∷ xs)) ≡ with_uri u (with_uri w (x ∷ xs))) [
          | Less ↦ λ d. sym (earlier_first w u x xs d)
          | Equal ↦ λ d. ap (with_uri w) (put-greater u x xs e) ∙ put-equal w x (with_uri u xs) d ∙ sym (ap (with_uri u) (put-equal w x xs d) ∙ put-greater u x xs e)
          | Greater ↦ λ d.
              ap (with_uri w) (put-greater u x xs e) ∙ put-greater w x (with_uri u xs) d ∙ ap (λ r. x ∷ r) swapped
              ∙ sym (ap (with_uri u) (put-greater w x xs d) ∙ put-greater u x (with_uri w xs) e)
        ] refl

put-twice : (u : List ℕ) (uris : List (List ℕ)) → with_uri u (with_uri u uris) ≡ with_uri u uris
put-twice u [] = put-equal u u [] (itself u)
put-twice u (x ∷ xs) =
    elim (order u x) as (λ o. order u x ≡ o → with_uri u (match_ordering o (u ∷ x ∷ xs) (x ∷ xs) (x ∷ with_uri u xs)) ≡ match_ordering o (u ∷ x ∷ xs) (x ∷ xs) (x ∷ with_uri u xs)) [
      | Less ↦ λ e. put-equal u u (x ∷ xs) (itself u)
      | Equal ↦ λ e. put-equal u x xs e
      | Greater ↦ λ e. put-greater u x (with_uri u xs) e ∙ ap (λ r. x ∷ r) (put-twice u xs)
    ] refl

known_with : List Known → Known → List Known
known_with ks k = filter (λ j. has_known ks j || known_eq k j) all_known

known-swap : (ks : List Known) (j k : Known) → known_with (known_with ks j) k ≡ known_with (known_with ks k) j
unfolding known_with
known-swap ks j k =
    filter-same (λ l. has_known (known_with ks j) l || known_eq k l) (λ l. has_known (known_with ks k) l || known_eq j l)
    (λ l.
    ap (λ b. b || known_eq k l) (has_known-filter (λ m. has_known ks m || known_eq j m) l)
    ∙ or-last (has_known ks l) (known_eq j l) (known_eq k l)
    ∙ ap (λ b. b || known_eq j l) (sym (has_known-filter (λ m. has_known ks m || known_eq k m) l)))

known-twice : (ks : List Known) (k : Known) → known_with (known_with ks k) k ≡ known_with ks k
unfolding known_with
known-twice ks k =
    filter-same (λ l. has_known (known_with ks k) l || known_eq k l) (λ l. has_known ks l || known_eq k l)
    (λ l. ap (λ b. b || known_eq k l) (has_known-filter (λ m. has_known ks m || known_eq k m) l) ∙ or-twice (has_known ks l) (known_eq k l))

pub with-swap : (s : VocabularySet) (v w : Vocabulary) → with_vocabulary (with_vocabulary s v) w ≡ with_vocabulary (with_vocabulary s w) v
unfolding known_with
with-swap s (Standard j) (Standard k) = ap (λ ks. record { standard = ks; customs = s.customs }) (known-swap s.standard j k)
with-swap s (Standard k) (Custom u) = refl
with-swap s (Custom u) (Standard k) = refl
with-swap s (Custom u) (Custom w) = ap (λ us. record { standard = s.standard; customs = us }) (put-swap u w s.customs)

pub with-twice : (s : VocabularySet) (v : Vocabulary) → with_vocabulary (with_vocabulary s v) v ≡ with_vocabulary s v
unfolding known_with
with-twice s (Standard k) = ap (λ ks. record { standard = ks; customs = s.customs }) (known-twice s.standard k)
with-twice s (Custom u) = ap (λ us. record { standard = s.standard; customs = us }) (put-twice u s.customs)

pub vocabulary_eq-is : (v w : Vocabulary) → vocabulary_eq v w ≡ true → v ≡ w
vocabulary_eq-is (Standard j) (Standard k) e = ap Standard (known_eq-is j k e)
vocabulary_eq-is (Standard k) (Custom u) e = absurd (false≢true e)
vocabulary_eq-is (Custom u) (Standard k) e = absurd (false≢true e)
vocabulary_eq-is (Custom u) (Custom w) e = ap Custom ((bytes_eq-Decides u w).0 e)

same_uris : (us vs : List (List ℕ)) → pointwise bytes_eq us vs ≡ true → us ≡ vs
same_uris [] [] e = refl
same_uris [] (v ∷ vs) e = absurd (false≢true e)
same_uris (u ∷ us) [] e = absurd (false≢true e)
same_uris (u ∷ us) (v ∷ vs) e =
    let parts = and_parts (bytes_eq u v) (pointwise bytes_eq us vs) e in
    ap (λ w. w ∷ us) ((bytes_eq-Decides u v).0 parts.0) ∙ ap (λ ws. v ∷ ws) (same_uris us vs parts.1)

pub set_eq-is : (s t : VocabularySet) → set_eq s t ≡ true → s ≡ t
set_eq-is s t e =
    let parts = and_parts (pointwise known_eq s.standard t.standard) (pointwise bytes_eq s.customs t.customs) e in
    ap (λ ks. record { standard = ks; customs = s.customs }) (same_lists s.standard t.standard parts.0)
    ∙ ap (λ us. record { standard = t.standard; customs = us }) (same_uris s.customs t.customs parts.1)
