-- Lemmas on a scan of an authority, with userinfo or without.
use Rattle.std.proofs.Common.{◌≡◌, ◌≢◌, ℕ, ◌+◌, ◌<◌, ◌≤◌, true, false, ◌||◌, not, List, [], ◌∷◌, length, take, drop, get_or, get_or-take, eqb, refl, sym, ap, ◌∙◌, subst, arith, inl, inr}
use Rattle.std.specs.List.{list_all, list_any, position_or_len, before_first}
use Rattle.std.proofs.lemmas.Bool.{and_parts, and_left, or_from, false≢true, false_from_ne_true, cases_lt, cases_eq, cases_order, eqb-true, eq-eqb, le-ltb}
use Rattle.std.proofs.lemmas.Bool.Decides.{nat_tests}
use Rattle.std.proofs.lemmas.List.{take-take}
use Rattle.std.proofs.lemmas.List.Sums.{prefix_len-le-length, position_or_len_is, passes_at_first}
use Rattle.std.proofs.lemmas.List.Folds.{length-prefix_len}
use Rattle.ref_uri.specs.Characters.{is_encoded, is_userinfo_character}
use Rattle.ref_uri.specs.inner.Scans.{begins_encoded}
use Rattle.ref_uri.specs.declared.characters.Class.TheVariants.{Userinfo}
use Rattle.ref_uri.specs.Authority.{is_authority, is_host_and_port}
use Rattle.ref_uri.specs.Components.{ends_authority}
use Rattle.ref_uri.proofs.EncodedLemmas.{any_is_found, passes_in_front, not_encoded_past}
use Rattle.ref_uri.proofs.AuthorityLemmas.{is_authority-userinfo}
use Rattle.ref_uri.proofs.AuthorityCharacters.{is_host_character, host_and_port_characters}
use Rattle.ref_uri.proofs.ScanLemmas.{before_first-drop}
use Rattle.ref_uri.proofs.HostLemmas.{encoded_inside, part_past}

no_at : (a : List ℕ) → list_all is_host_character a ≡ true → list_any (λ x. eqb x 64) a ≡ false
no_at [] h = refl
no_at (c ∷ a) h =
    let both = and_parts (is_host_character c) (list_all is_host_character a) h in
    let is : is_host_character c ≡ true = both.0 in
    let other : eqb c 64 ≡ false = grind (arith, nat_tests) in
    or_from (eqb c 64) (list_any (λ x. eqb x 64) a) other (no_at a both.1)

-- with no `@` an authority is a host and a port
no_at_is : (a : List ℕ) → list_any (λ x. eqb x 64) a ≡ false → is_authority a ≡ is_host_and_port a
no_at_is a absent = rw absent refl

pub host_alone : (a : List ℕ) → is_host_and_port a ≡ true → is_authority a ≡ true
host_alone a h = no_at_is a (no_at a (host_and_port_characters a h)) ∙ h

-- where what is before the first `@` isn't userinfo, nor all a host and a port, it is no authority
no_authority : (a : List ℕ) → (position_or_len (λ x. eqb x 64) a < length a → is_encoded is_userinfo_character (take (position_or_len (λ x. eqb x 64) a) a) ≡ false) → is_host_and_port a ≡ false → is_authority a ≡ false
no_authority a front h =
    let at = position_or_len (λ x. eqb x 64) a in
    let rest = drop (at + 1) a in
    elim (cases_lt at (length a)) [
      | inl lt ↦ is_authority-userinfo a lt ∙ and_left (is_encoded is_userinfo_character (take at a)) (is_host_and_port rest) (front lt)
      | inr ge ↦ no_at_is a (any_is_found (λ x. eqb x 64) a ∙ le-ltb at (length a) ge) ∙ h
    ]

pub bracket_alone : (a : List ℕ) → get_or a 0 0 ≡ 91 → is_authority a ≡ is_host_and_port a
bracket_alone a mark =
    elim (is_host_and_port a) as (λ b. is_host_and_port a ≡ b → is_authority a ≡ b) [
      | true ↦ λ h. host_alone a h
      | false ↦ λ h. no_authority a front h
    ] refl
  where
    front : position_or_len (λ x. eqb x 64) a < length a → is_encoded is_userinfo_character (take (position_or_len (λ x. eqb x 64) a) a) ≡ false
    front lt =
        let at = position_or_len (λ x. eqb x 64) a in
        let there : get_or a at 0 ≡ 64 = eqb-true (get_or a at 0) 64 (passes_at_first (λ x. eqb x 64) a 0 lt) in
        elim (cases_eq at 0) [
          | inl zero ↦ absurd (omega (arith, mark, there, ap (λ k. get_or a k 0) zero))
          | inr some ↦ false_from_ne_true _ (λ yes. false≢true (subst (λ (c : ℕ). (is_userinfo_character c || eqb c 37) ≡ true) mark (passes_in_front Userinfo a at 0 (omega arith) (omega arith) yes)))
        ]

-- where the run of userinfo stops at no `@`
pub userinfo_refused : (t : List ℕ) (u : ℕ) → u ≤ length t → is_encoded is_userinfo_character (take u t) ≡ true → begins_encoded is_userinfo_character (drop u t) ≡ false → get_or t u 0 ≢ 64 → is_host_and_port (before_first ends_authority t) ≡ false → is_authority (before_first ends_authority t) ≡ false
userinfo_refused t u le h no_more other = no_authority (before_first ends_authority t) front
  where
    front : position_or_len (λ x. eqb x 64) (before_first ends_authority t) < length (before_first ends_authority t) → is_encoded is_userinfo_character (take (position_or_len (λ x. eqb x 64) (before_first ends_authority t)) (before_first ends_authority t)) ≡ false
    front lt =
        let end = position_or_len ends_authority t in
        let a = before_first ends_authority t in
        let at = position_or_len (λ x. eqb x 64) a in
        let len_a : length a ≡ end = length-prefix_len (λ c. not (ends_authority c)) t in
        let short : end ≤ length t = prefix_len-le-length (λ c. not (ends_authority c)) t in
        let there : get_or t at 0 ≡ 64 = sym (get_or-take end t at 0 (omega arith)) ∙ eqb-true (get_or a at 0) 64 (passes_at_first (λ x. eqb x 64) a 0 lt) in
        let same : take at a ≡ take at t = take-take at end t (omega arith) in
        elim (cases_order at u) [
          | inl here ↦ absurd (other (ap (λ k. get_or t k 0) (sym here) ∙ there))
          | inr (inl before) ↦ absurd (false≢true (subst (λ (c : ℕ). (is_userinfo_character c || eqb c 37) ≡ true) there (passes_in_front Userinfo t u at before le h)))
          | inr (inr behind) ↦ ap (is_encoded is_userinfo_character) same ∙ not_encoded_past Userinfo t u at behind (omega arith) no_more
        ]

-- userinfo and its `@` lie inside the authority
pub userinfo_inside : (t : List ℕ) (u : ℕ) → u < length t → is_encoded is_userinfo_character (take u t) ≡ true → get_or t u 0 ≡ 64 → u + 1 ≤ position_or_len ends_authority t
userinfo_inside t u lt h mark =
    let end = position_or_len ends_authority t in
    let inner : u ≤ end = encoded_inside t u (omega arith) h in
    elim (cases_eq u end) [
      | inl same ↦ absurd (false≢true (subst (λ (c : ℕ). ends_authority c ≡ true) (ap (λ k. get_or t k 0) (sym same) ∙ mark) (passes_at_first ends_authority t 0 (omega arith))))
      | inr less ↦ omega arith
    ]

-- where it stops at an `@`, the host and the port after it decide
pub userinfo_taken : (t : List ℕ) (u : ℕ) → u < length t → is_encoded is_userinfo_character (take u t) ≡ true → get_or t u 0 ≡ 64 → is_authority (before_first ends_authority t) ≡ is_host_and_port (before_first ends_authority (drop (u + 1) t))
userinfo_taken t u lt h mark =
    let end = position_or_len ends_authority t in
    let a = before_first ends_authority t in
    let inner : u + 1 ≤ end = userinfo_inside t u lt h mark in
    let len_a : length a ≡ end = length-prefix_len (λ c. not (ends_authority c)) t in
    let at_is : position_or_len (λ x. eqb x 64) a ≡ u =
    position_or_len_is (λ x. eqb x 64) a u 0 (omega arith)
    (λ k before. userinfo_is_no_at (get_or a k 0) (subst (λ (c : ℕ). (is_userinfo_character c || eqb c 37) ≡ true) (sym (get_or-take end t k 0 (omega arith))) (passes_in_front Userinfo t u k before (omega arith) h)))
    (λ _. eq-eqb (get_or a u 0) 64 (get_or-take end t u 0 (omega arith) ∙ mark)) in
    let front : take u a ≡ take u t = take-take u end t (omega arith) in
    let back : drop (u + 1) a ≡ before_first ends_authority (drop (u + 1) t) = sym (before_first-drop ends_authority t (u + 1) inner) in
    is_authority-userinfo a (omega arith) ∙ rw (at_is, front, back, h) refl
  where
    userinfo_is_no_at : (c : ℕ) → (is_userinfo_character c || eqb c 37) ≡ true → eqb c 64 ≡ false
    userinfo_is_no_at c is = grind (arith, nat_tests)

pub first_stays : (t : List ℕ) → get_or t 0 0 ≡ 91 → get_or (before_first ends_authority t) 0 0 ≡ 91
first_stays t mark = ap (λ l. get_or l 0 0) (part_past t mark)
