-- Induction over the characters and the triples of a text.
use Rattle.std.proofs.Common.{◌≡◌, ◌≢◌, ℕ, true, false, cond, List, [], ◌∷◌, eqb, refl, sym, ◌∙◌, subst, inl, inr}
use Rattle.std.specs.Char.{is_ascii_hexdigit}
use Rattle.std.proofs.lemmas.Bool.{and_parts, false≢true, cases_eq}
use Rattle.ref_uri.specs.Characters.{begins_with_hex_digits, has_whole_triples}

-- what holds of no text, and of one character or one triple more, holds of every text of whole triples
pub by_units : (P : List ℕ → Type 0) → P [] → ((c : ℕ) (text : List ℕ) → c ≢ 37 → has_whole_triples text ≡ true → P text → P (c ∷ text)) → ((high low : ℕ) (text : List ℕ) → is_ascii_hexdigit high ≡ true → is_ascii_hexdigit low ≡ true → has_whole_triples text ≡ true → P text → P (37 ∷ high ∷ low ∷ text)) → (text : List ℕ) → has_whole_triples text ≡ true → P text
by_units P none character triple [] h = none
by_units P none character triple (c ∷ []) h =
    elim (cases_eq c 37) [
      | inl e ↦ absurd (false≢true (digits_missing c [] e refl h))
      | inr ne ↦ character c [] ne refl none
    ]
  where
    digits_missing : (c : ℕ) (t : List ℕ) → c ≡ 37 → begins_with_hex_digits t ≡ false → has_whole_triples (c ∷ t) ≡ true → false ≡ true
    digits_missing c t e missing k = sym missing ∙ (and_parts _ _ (rw e at k)).0
by_units P none character triple (c ∷ a ∷ []) h =
    elim (cases_eq c 37) [
      | inl e ↦ absurd (false≢true (digits_missing c (a ∷ []) e refl h))
      | inr ne ↦ character c (a ∷ []) ne (and_parts _ _ h).1 (by_units P none character triple (a ∷ []) (and_parts _ _ h).1)
    ]
  where
    digits_missing : (c : ℕ) (t : List ℕ) → c ≡ 37 → begins_with_hex_digits t ≡ false → has_whole_triples (c ∷ t) ≡ true → false ≡ true
    digits_missing c t e missing k = sym missing ∙ (and_parts _ _ (rw e at k)).0
by_units P none character triple (c ∷ a ∷ b ∷ text) h =
    elim (cases_eq c 37) [
      | inl e ↦ in_triple e (by_units P none character triple text (behind h))
      | inr ne ↦ character c (a ∷ b ∷ text) ne (and_parts _ _ h).1 (by_units P none character triple (a ∷ b ∷ text) (and_parts _ _ h).1)
    ]
  where
    behind : has_whole_triples (c ∷ a ∷ b ∷ text) ≡ true → has_whole_triples text ≡ true
    behind k =
        let one = and_parts (cond (eqb c 37) (begins_with_hex_digits (a ∷ b ∷ text)) true) (has_whole_triples (a ∷ b ∷ text)) k in
        let two = and_parts (cond (eqb a 37) (begins_with_hex_digits (b ∷ text)) true) (has_whole_triples (b ∷ text)) one.1 in
        (and_parts (cond (eqb b 37) (begins_with_hex_digits text) true) (has_whole_triples text) two.1).1

    in_triple : c ≡ 37 → P text → P (c ∷ a ∷ b ∷ text)
    in_triple e rest =
        let digits : begins_with_hex_digits (a ∷ b ∷ text) ≡ true = (and_parts _ _ (rw e at h)).0 in
        let both = and_parts (is_ascii_hexdigit a) (is_ascii_hexdigit b) digits in
        subst (λ (d : ℕ). P (d ∷ a ∷ b ∷ text)) (sym e) (triple a b text both.0 both.1 (behind h) rest)
