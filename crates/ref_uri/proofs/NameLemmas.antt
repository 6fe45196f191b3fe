-- Paths none of whose segments is a dot segment.
use Rattle.std.proofs.Common.{◌≡◌, ◌≢◌, ℕ, suc, ◌+◌, ◌-◌, ◌<◌, false, List, [], ◌∷◌, ◌++◌, append_assoc, append-nil, length, get_or, refl, sym, ap, ◌∙◌, arith, inl, inr, codes}
use Rattle.std.specs.List.{onto_first}
use Rattle.std.proofs.lemmas.Bool.{cases_eq, false_from_ne_true, or_parts, or_from}
use Rattle.std.proofs.lemmas.Slice.Eq.{bytes_eq-Decides}
use Rattle.ref_uri.specs.DotSegments.{segments, after_slashes, joined_segments, is_dot, is_dot_dot, is_dot_segment}
use Rattle.ref_uri.specs.inner.Removal.{path_after, progress_after, slash_of, AreNames, IsInside}
use Rattle.ref_uri.specs.declared.dots.Progress.{Progress}
use Rattle.ref_uri.specs.declared.dots.Progress.TheVariants.{Front, Within, Dots}
use Rattle.ref_uri.proofs.SegmentLemmas.{segments-slash, segments-other, segments-shape}

-- the segments of a path join to it
pub joined-segments : (path : List ℕ) → joined_segments (segments path) ≡ path
joined-segments [] = refl
joined-segments (c ∷ path) =
    let shape = segments-shape path in
    let rest = ap joined_segments (sym shape.2) ∙ joined-segments path in
    elim (cases_eq c 47) [
      | inl slash ↦ ap joined_segments (segments-slash c path slash ∙ ap (λ xs. [] ∷ xs) shape.2) ∙ ap (λ t. 47 ∷ t) rest ∙ ap (λ x. x ∷ path) (sym slash)
      | inr other ↦ ap joined_segments (segments-other c path other ∙ ap (onto_first c) shape.2) ∙ ap (λ t. c ∷ t) rest
    ]

-- a text that begins with no dot is no dot segment
is_name : (s : List ℕ) → (get_or s 0 0 ≢ 46) → is_dot_segment s ≡ false
is_name s other =
    or_from (is_dot s) (is_dot_dot s)
    (false_from_ne_true (is_dot s) (λ is. other (ap (λ t. get_or t 0 0) ((bytes_eq-Decides s (codes ".")).0 is))))
    (false_from_ne_true (is_dot_dot s) (λ is. other (ap (λ t. get_or t 0 0) ((bytes_eq-Decides s (codes "..")).0 is))))

-- The segments of a path after whose slashes no dot is: the first, which begins as the path does, and names.
record FirstAndNames (path : List ℕ) : Type 0 where
  first : List ℕ
  rest : List (List ℕ)
  are : segments path ≡ first ∷ rest
  names : AreNames rest
  begins : get_or first 0 0 ≡ 46 → get_or path 0 0 ≡ 46

first_and_names : (path : List ℕ) → ((k : ℕ) → k + 1 < length path → get_or path k 0 ≡ 47 → get_or path (k + 1) 0 ≢ 46) → FirstAndNames path
first_and_names [] none = record { first = []; rest = []; are = refl; names = tt; begins = λ h. h }
first_and_names (c ∷ path) none =
    let behind = first_and_names path (λ k lt slash dot. none (suc k) (omega arith) slash (next k dot)) in
    elim (cases_eq c 47) [
      | inl slash ↦ record {
        first = [];
        rest = behind.first ∷ behind.rest;
        are = segments-slash c path slash ∙ ap (λ xs. [] ∷ xs) behind.are;
        names = (is_name behind.first (λ dot. at_first slash (behind.begins dot)), behind.names);
        begins = λ h. absurd (omega (arith, h));
      }
      | inr other ↦ record {
        first = c ∷ behind.first;
        rest = behind.rest;
        are = segments-other c path other ∙ ap (onto_first c) behind.are;
        names = behind.names;
        begins = λ h. h;
      }
    ]
  where
    next : (k : ℕ) → get_or path (k + 1) 0 ≡ 46 → get_or (c ∷ path) (suc k + 1) 0 ≡ 46
    next k dot = let e : suc k + 1 ≡ suc (k + 1) = omega arith in rw e dot

    at_first : c ≡ 47 → get_or path 0 0 ≡ 46 → ⊥
    at_first slash dot =
        let some : 0 < length path = nonempty path dot in
        none 0 (omega arith) slash dot
      where
        nonempty : (t : List ℕ) → get_or t 0 0 ≡ 46 → 0 < length t
        nonempty [] h = absurd (omega (arith, h))
        nonempty (x ∷ t) h = omega arith

-- where no segment begins with a dot
pub are_names : (path : List ℕ) → ((k : ℕ) → k < length path → IsInside path k) → AreNames (segments path)
are_names path inside =
    let parts = first_and_names path (λ k lt slash dot. (inside (k + 1) lt dot).1 (ap (λ j. get_or path j 0) (back k) ∙ slash)) in
    rw parts.are (is_name parts.first (λ dot. at_front (parts.begins dot)), parts.names)
  where
    back : (k : ℕ) → k + 1 - 1 ≡ k
    back k = omega arith

    nonempty : (t : List ℕ) → get_or t 0 0 ≡ 46 → 0 < length t
    nonempty [] h = absurd (omega (arith, h))
    nonempty (x ∷ t) h = omega arith

    at_front : get_or path 0 0 ≡ 46 → ⊥
    at_front dot = let none : 0 < 0 = (inside 0 (nonempty path dot) dot).0 in absurd (omega arith)

-- names after a path
names_within : (path : List ℕ) (names : List (List ℕ)) → AreNames names → (path_after Within path names ≡ path ++ after_slashes names) × (progress_after Within names ≡ Within)
names_within path [] all = (sym (append-nil path), refl)
names_within path (s ∷ names) all =
    let both = or_parts (is_dot s) (is_dot_dot s) all.0 in
    let more = names_within (path ++ 47 ∷ s) names all.1 in
    (rw (both.0, both.1) (more.0 ∙ append_assoc path (47 ∷ s) (after_slashes names)), rw (both.0, both.1) more.1)

-- names that are written after a path
pub names_after : (progress : Progress) (path : List ℕ) (names : List (List ℕ)) (text : List ℕ) → segments text ≡ names → AreNames names → (path_after progress path names ≡ path ++ (slash_of progress ++ text)) × (progress_after progress names ≡ Within)
names_after progress path [] text is all = let shape = segments-shape text in absurd (no_cons shape.0 shape.1 (sym shape.2 ∙ is))
  where
    no_cons : (s : List ℕ) (ss : List (List ℕ)) → s ∷ ss ≡ [] → ⊥
    no_cons s ss e = cc
names_after Front path (s ∷ names) text is all =
    let both = or_parts (is_dot s) (is_dot_dot s) all.0 in
    let more = names_within (path ++ s) names all.1 in
    let whole : s ++ after_slashes names ≡ text = ap joined_segments (sym is) ∙ joined-segments text in
    (rw (both.0, both.1) (more.0 ∙ append_assoc path s (after_slashes names) ∙ ap (λ t. path ++ t) whole), rw (both.0, both.1) more.1)
names_after Within path (s ∷ names) text is all =
    let more = names_within path (s ∷ names) all in
    let whole : s ++ after_slashes names ≡ text = ap joined_segments (sym is) ∙ joined-segments text in
    (more.0 ∙ ap (λ t. path ++ 47 ∷ t) whole, more.1)
names_after Dots path (s ∷ names) text is all =
    let more = names_within path (s ∷ names) all in
    let whole : s ++ after_slashes names ≡ text = ap joined_segments (sym is) ∙ joined-segments text in
    (more.0 ∙ ap (λ t. path ++ 47 ∷ t) whole, more.1)
