-- The segments of a path.
use Rattle.std.proofs.Common.{◌≡◌, ◌≢◌, ℕ, zero, suc, ◌<◌, Bool, true, not, List, [], ◌∷◌, ◌++◌, length, get_or, eqb, refl, sym, ap, ◌∙◌, subst, arith, inl, inr}
use Rattle.std.specs.List.{onto_first, list_all, AllByRecursion}
use Rattle.std.specs.Char.{is_ascii_hexdigit}
use Rattle.std.specs.Str.{IsAscii}
use Rattle.std.proofs.lemmas.List.Splits.{length-slice_split}
use Rattle.std.proofs.lemmas.Bool.{cases_eq, ne_eqb, eq-eqb, false≢true, and_from, and_parts}
use Rattle.std.proofs.lemmas.Bool.Decides.{nat_tests}
use Rattle.std.proofs.lemmas.Str.{IsAscii-drop}
use Rattle.std.proofs.lemmas.Str.Ascii.{IsAscii-nil, IsAscii-cons}
use Rattle.ref_uri.specs.Characters.{has_whole_triples}
use Rattle.ref_uri.specs.DotSegments.{segments}
use Rattle.ref_uri.proofs.Induction.{by_units}

-- the segments after a slash, and after another character
pub segments-slash : (c : ℕ) (path : List ℕ) → c ≡ 47 → segments (c ∷ path) ≡ [] ∷ segments path
segments-slash c path e = rw (eq-eqb c 47 e) refl

pub segments-other : (c : ℕ) (path : List ℕ) → c ≢ 47 → segments (c ∷ path) ≡ onto_first c (segments path)
segments-other c path ne = rw (ne_eqb c 47 ne) refl

hex_is_no_slash : (c : ℕ) → is_ascii_hexdigit c ≡ true → c ≢ 47
hex_is_no_slash c h = λ e. grind (arith, nat_tests)

-- the segments after a triple
pub segments-triple : (high low : ℕ) (path : List ℕ) → is_ascii_hexdigit high ≡ true → is_ascii_hexdigit low ≡ true → segments (37 ∷ high ∷ low ∷ path) ≡ onto_first 37 (onto_first high (onto_first low (segments path)))
segments-triple high low path h l =
    ap (onto_first 37) (segments-other high (low ∷ path) (hex_is_no_slash high h) ∙ ap (onto_first high) (segments-other low path (hex_is_no_slash low l)))

-- what holds of each part, where a character joins the first
pub each_onto : (P : List ℕ → Type 0) (c : ℕ) (parts : List (List ℕ)) → P (c ∷ []) → ((s : List ℕ) → P s → P (c ∷ s)) → AllByRecursion P parts → AllByRecursion P (onto_first c parts)
each_onto P c [] alone more h = (alone, tt)
each_onto P c (part ∷ parts) alone more h = (more part h.0, h.1)

-- the same where a triple does
pub each_onto_triple : (P : List ℕ → Type 0) (high low : ℕ) (parts : List (List ℕ)) → P (37 ∷ high ∷ low ∷ []) → ((s : List ℕ) → P s → P (37 ∷ high ∷ low ∷ s)) → AllByRecursion P parts → AllByRecursion P (onto_first 37 (onto_first high (onto_first low parts)))
each_onto_triple P high low [] alone more h = (alone, tt)
each_onto_triple P high low (part ∷ parts) alone more h = (more part h.0, h.1)

-- whole triples are in each segment
pub segments_are_whole : (path : List ℕ) → has_whole_triples path ≡ true → AllByRecursion (λ s. has_whole_triples s ≡ true) (segments path)
segments_are_whole =
    by_units (λ t. AllByRecursion (λ s. has_whole_triples s ≡ true) (segments t))
    (refl, tt)
    (λ c t ne whole rest. elim (cases_eq c 47) [
      | inl e ↦ subst (AllByRecursion (λ s. has_whole_triples s ≡ true)) (sym (segments-slash c t e)) (refl, rest)
      | inr other ↦
          subst (AllByRecursion (λ s. has_whole_triples s ≡ true)) (sym (segments-other c t other)) (each_onto (λ s. has_whole_triples s ≡ true) c (segments t) (plain c [] ne refl) (λ s h. plain c s ne h) rest)
    ])
    (λ high low t h l whole rest.
    subst (AllByRecursion (λ s. has_whole_triples s ≡ true)) (sym (segments-triple high low t h l)) (each_onto_triple (λ s. has_whole_triples s ≡ true) high low (segments t) (joined high low [] h l refl) (λ s k. joined high low s h l k) rest))
  where
    plain : (c : ℕ) (s : List ℕ) → c ≢ 37 → has_whole_triples s ≡ true → has_whole_triples (c ∷ s) ≡ true
    plain c s ne h = rw (ne_eqb c 37 ne) h

    hex_is_no_percent : (c : ℕ) → is_ascii_hexdigit c ≡ true → c ≢ 37
    hex_is_no_percent c h = λ e. grind (arith, nat_tests)

    joined : (high low : ℕ) (s : List ℕ) → is_ascii_hexdigit high ≡ true → is_ascii_hexdigit low ≡ true → has_whole_triples s ≡ true → has_whole_triples (37 ∷ high ∷ low ∷ s) ≡ true
    joined high low s h l k = rw (h, l) (plain high (low ∷ s) (hex_is_no_percent high h) (plain low s (hex_is_no_percent low l) k))

-- what each character of a path passes, each character of a segment does
pub segments_pass : (q : ℕ → Bool) (path : List ℕ) → list_all q path ≡ true → AllByRecursion (λ s. list_all q s ≡ true) (segments path)
segments_pass q [] h = (refl, tt)
segments_pass q (c ∷ path) h =
    let both = and_parts (q c) (list_all q path) h in
    elim (cases_eq c 47) [
      | inl e ↦ subst (AllByRecursion (λ s. list_all q s ≡ true)) (sym (segments-slash c path e)) (refl, segments_pass q path both.1)
      | inr other ↦
          subst (AllByRecursion (λ s. list_all q s ≡ true)) (sym (segments-other c path other)) (each_onto (λ s. list_all q s ≡ true) c (segments path) (and_from (q c) true both.0 refl) (λ s k. and_from (q c) (list_all q s) both.0 k) (segments_pass q path both.1))
    ]

pub segments_are_ascii : (path : List ℕ) → IsAscii path → AllByRecursion IsAscii (segments path)
segments_are_ascii [] h = (IsAscii-nil, tt)
segments_are_ascii (c ∷ path) h =
    let rest : IsAscii path = IsAscii-drop (c ∷ path) 1 h in
    elim (cases_eq c 47) [
      | inl e ↦ subst (AllByRecursion IsAscii) (sym (segments-slash c path e)) (IsAscii-nil, segments_are_ascii path rest)
      | inr other ↦
          subst (AllByRecursion IsAscii) (sym (segments-other c path other)) (each_onto IsAscii c (segments path) (IsAscii-cons c [] (h 0) IsAscii-nil) (λ s k. IsAscii-cons c s (h 0) k) (segments_are_ascii path rest))
    ]

-- no slash is in a segment
pub segments_hold_no_slash : (path : List ℕ) → AllByRecursion (λ s. list_all (λ c. not (eqb c 47)) s ≡ true) (segments path)
segments_hold_no_slash [] = (refl, tt)
segments_hold_no_slash (c ∷ path) =
    elim (cases_eq c 47) [
      | inl e ↦ subst (AllByRecursion (λ s. list_all (λ x. not (eqb x 47)) s ≡ true)) (sym (segments-slash c path e)) (refl, segments_hold_no_slash path)
      | inr other ↦
          let apart : not (eqb c 47) ≡ true = ap not (ne_eqb c 47 other) in
          subst (AllByRecursion (λ s. list_all (λ x. not (eqb x 47)) s ≡ true)) (sym (segments-other c path other)) (each_onto (λ s. list_all (λ x. not (eqb x 47)) s ≡ true) c (segments path) (and_from (not (eqb c 47)) true apart refl) (λ s k. and_from (not (eqb c 47)) (list_all (λ x. not (eqb x 47)) s) apart k) (segments_hold_no_slash path))
    ]

-- each of a list, one of them
pub each_at : {X : Type 0} (P : X → Type 0) (xs : List X) (i : ℕ) (x : X) → AllByRecursion P xs → i < length xs → x ≡ get_or xs i x → P x
each_at P [] i x all lt e = absurd (omega arith)
each_at P (y ∷ xs) zero x all lt e = subst P (sym e) all.0
each_at P (y ∷ xs) (suc i) x all lt e = each_at P xs i x all.1 (omega arith) e

-- the segments of two parts with a slash between
pub segments-append : (front rest : List ℕ) → segments (front ++ 47 ∷ rest) ≡ segments front ++ segments rest
segments-append [] rest = refl
segments-append (c ∷ front) rest =
    elim (cases_eq c 47) [
      | inl e ↦ segments-slash c (front ++ 47 ∷ rest) e ∙ ap (λ t. [] ∷ t) (segments-append front rest) ∙ ap (λ t. t ++ segments rest) (sym (segments-slash c front e))
      | inr other ↦
          segments-other c (front ++ 47 ∷ rest) other ∙ ap (onto_first c) (segments-append front rest)
          ∙ onto_front c (segments front) (segments rest) (segments-some front)
          ∙ ap (λ t. t ++ segments rest) (sym (segments-other c front other))
    ]
  where
    onto_front : (c : ℕ) (parts more : List (List ℕ)) → 0 < length parts → onto_first c (parts ++ more) ≡ onto_first c parts ++ more
    onto_front c [] more some = absurd (omega arith)
    onto_front c (part ∷ parts) more some = refl

    segments-some : (path : List ℕ) → 0 < length (segments path)
    segments-some path = omega (arith, length-slice_split (λ x. eqb x 47) path)

-- there is a first segment
pub segments-shape : (path : List ℕ) → (part : List ℕ) × (parts : List (List ℕ)) × (segments path ≡ part ∷ parts)
segments-shape path = of_parts (segments path) (omega (arith, length-slice_split (λ x. eqb x 47) path))
  where
    of_parts : (parts : List (List ℕ)) → 0 < length parts → (first : List ℕ) × (rest : List (List ℕ)) × (parts ≡ first ∷ rest)
    of_parts [] some = absurd (omega arith)
    of_parts (first ∷ rest) some = (first, rest, refl)

-- a run without slashes joins the first segment
pub segments-run : (run path part : List ℕ) (parts : List (List ℕ)) → list_all (λ c. not (eqb c 47)) run ≡ true → segments path ≡ part ∷ parts → segments (run ++ path) ≡ (run ++ part) ∷ parts
segments-run [] path part parts h shape = shape
segments-run (c ∷ run) path part parts h shape =
    let both = and_parts (not (eqb c 47)) (list_all (λ x. not (eqb x 47)) run) h in
    segments-other c (run ++ path) (λ e. false≢true (ap not (sym (eq-eqb c 47 e)) ∙ both.0)) ∙ ap (onto_first c) (segments-run run path part parts both.1 shape)
