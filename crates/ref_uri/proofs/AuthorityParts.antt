-- The parts of an authority: what each holds, and that they are determined by their text.
use Rattle.std.proofs.Common.{◌≡◌, ℕ, true, false, not, List, [], ◌∷◌, eqb, refl, sym, ◌∙◌, ◌<◌, ◌≤◌, ◌+◌, ◌++◌, ◌&&◌, length, take, drop, arith, inl, inr, lt-ltb}
use Rattle.std.specs.List.{list_all, list_any, position_or_len}
use Rattle.std.proofs.lemmas.Bool.{and_parts, and_from, or_cases, not-true, le-ltb}
use Rattle.std.proofs.lemmas.List.{append_assoc}
use Rattle.std.proofs.lemmas.Bool.Decides.{nat_tests}
use Rattle.ref_uri.specs.Characters.{has_whole_triples, is_encoded, is_name_character, is_userinfo_character}
use Rattle.ref_uri.specs.Authority.{is_host, is_bracketed, is_authority, is_host_and_port, is_port_part, host_len}
use Rattle.ref_uri.specs.Normal.{normal_authority, normal_text, normal_host, normal_port_part}
use Rattle.ref_uri.proofs.EncodedLemmas.{any_is_found}
use Rattle.ref_uri.proofs.AuthorityLemmas.{is_authority-userinfo}
use Rattle.ref_uri.proofs.AuthorityCharacters.{is_literal_character, literal_characters, list_all-wider}

-- a text without `%`
pub whole_without_percent : (text : List ℕ) → list_all (λ c. not (eqb c 37)) text ≡ true → has_whole_triples text ≡ true
whole_without_percent [] h = refl
whole_without_percent (c ∷ text) h =
    let both = and_parts (not (eqb c 37)) (list_all (λ x. not (eqb x 37)) text) h in
    and_from _ _ (rw (not-true (eqb c 37) both.0) refl) (whole_without_percent text both.1)

pub host_is_whole : (text : List ℕ) → is_host text ≡ true → has_whole_triples text ≡ true
host_is_whole text h =
    elim (or_cases (is_bracketed text) (is_encoded is_name_character text) h) [
      | inl bracketed ↦ whole_without_percent text (list_all-wider is_literal_character (λ c. not (eqb c 37)) (λ c k. grind (arith, nat_tests)) text (literal_characters text bracketed))
      | inr name ↦ (and_parts _ _ name).1
    ]

-- Whole triples are in each part of an authority with an `@`.
pub record WithUserinfo (text : List ℕ) (at : ℕ) : Type 0 where
  pub userinfo : has_whole_triples (take at text) ≡ true
  pub host : has_whole_triples (take (host_len (drop (at + 1) text)) (drop (at + 1) text)) ≡ true
  pub normal : normal_authority text ≡ (normal_text (take at text) ++ 64 ∷ []) ++ (normal_host (take (host_len (drop (at + 1) text)) (drop (at + 1) text)) ++ normal_port_part (drop (host_len (drop (at + 1) text)) (drop (at + 1) text)))

pub with_userinfo : (text : List ℕ) → is_authority text ≡ true → position_or_len (λ x. eqb x 64) text < length text → WithUserinfo text (position_or_len (λ x. eqb x 64) text)
unfolding normal_authority
with_userinfo text h lt =
    let at = position_or_len (λ x. eqb x 64) text in
    let rest = drop (at + 1) text in
    let all = sym (is_authority-userinfo text lt) ∙ h in
    let both = and_parts (is_encoded is_userinfo_character (take at text)) (is_host_and_port rest) all in
    let found : list_any (λ x. eqb x 64) text ≡ true = any_is_found (λ x. eqb x 64) text ∙ lt-ltb _ _ lt in
    record {
      userinfo = (and_parts _ _ both.0).1;
      host = host_is_whole (take (host_len rest) rest) (and_parts (is_host (take (host_len rest) rest)) (is_port_part (drop (host_len rest) rest)) both.1).0;
      normal = rw found (append_assoc (normal_text (take at text) ++ 64 ∷ []) (normal_host (take (host_len rest) rest)) (normal_port_part (drop (host_len rest) rest)));
    }

-- The same in one without.
pub record WithoutUserinfo (text : List ℕ) : Type 0 where
  pub host : has_whole_triples (take (host_len text) text) ≡ true
  pub normal : normal_authority text ≡ normal_host (take (host_len text) text) ++ normal_port_part (drop (host_len text) text)

pub without_userinfo : (text : List ℕ) → is_authority text ≡ true → length text ≤ position_or_len (λ x. eqb x 64) text → WithoutUserinfo text
unfolding normal_authority
without_userinfo text h le =
    let absent : list_any (λ x. eqb x 64) text ≡ false = any_is_found (λ x. eqb x 64) text ∙ le-ltb _ _ le in
    let all : (is_host (take (host_len text) text) && is_port_part (drop (host_len text) text)) ≡ true = rw absent at h in
    record {
      host = host_is_whole (take (host_len text) text) (and_parts (is_host (take (host_len text) text)) (is_port_part (drop (host_len text) text)) all).0;
      normal = rw absent refl;
    }
