-- The text of a set, item by item.
use Rattle.std.proofs.Common.{◌≡◌, ℕ, zero, suc, ◌+◌, ◌<◌, ◌==◌, Bool, true, false, cond, List, [], ◌∷◌, ◌++◌, map, filter, take, get_or, codes, refl, sym, ◌∙◌, ap, append_assoc, append-nil, arith, bit_and, ◌/◌, ◌^◌}
use Rattle.std.specs.Fmt.{HasWritten}
use Rattle.std.specs.declared.fmt.Formatter.{Formatter}
use Rattle.std.specs.Int.{bit_at}
use Rattle.std.specs.List.{flat_map}
use Rattle.std.proofs.lemmas.Bool.Decides.{nat_tests}
use Rattle.std.proofs.lemmas.Grind.{flat_map-append, put_two}
use Rattle.std.proofs.lemmas.List.{map-append}
use Rattle.std.proofs.lemmas.List.Elements.{filter_more}
use Rattle.std.proofs.lemmas.Nat.Bits.{shr_and_one}
use Rattle.ref_vocabularies.specs.Vocabularies.{Core, all_known, bit, name, quoted_text}
use Rattle.ref_vocabularies.specs.inner.Shown.{item, names_before, opened_text, is_nil}

regroup : (a b c d : List ℕ) → (a ++ (b ++ c)) ++ d ≡ a ++ (b ++ (c ++ d))
regroup a b c d = simp append_assoc

abbrev behind : List (List ℕ) → List ℕ
behind texts = flat_map (λ t. codes ", " ++ quoted_text t) texts

after_more : (xs : List (List ℕ)) (x : List ℕ) → behind (xs ++ x ∷ []) ≡ behind xs ++ (codes ", " ++ quoted_text x)
after_more xs x = flat_map-append (λ t. codes ", " ++ quoted_text t) xs (x ∷ []) ∙ ap (λ t. behind xs ++ t) (append-nil (codes ", " ++ quoted_text x))

-- a further item
pub opened_more : (xs : List (List ℕ)) (x : List ℕ) → opened_text xs ++ item (is_nil xs) x ≡ opened_text (xs ++ x ∷ [])
opened_more [] x = ap (λ t. codes "[" ++ t) (sym (append-nil (quoted_text x)))
opened_more (y ∷ ys) x =
    regroup (codes "[") (quoted_text y) (behind ys) (codes ", " ++ quoted_text x) ∙ ap (λ t. codes "[" ++ (quoted_text y ++ t)) (sym (after_more ys x))

pub is_nil_more : (xs : List (List ℕ)) (x : List ℕ) → is_nil (xs ++ x ∷ []) ≡ false
is_nil_more [] x = refl
is_nil_more (y ∷ ys) x = refl

bit_of_place : (i : ℕ) → i < 9 → bit (get_or all_known i Core) ≡ i
bit_of_place zero below = refl
bit_of_place (suc zero) below = refl
bit_of_place (suc (suc zero)) below = refl
bit_of_place (suc (suc (suc zero))) below = refl
bit_of_place (suc (suc (suc (suc zero)))) below = refl
bit_of_place (suc (suc (suc (suc (suc zero))))) below = refl
bit_of_place (suc (suc (suc (suc (suc (suc zero)))))) below = refl
bit_of_place (suc (suc (suc (suc (suc (suc (suc zero))))))) below = refl
bit_of_place (suc (suc (suc (suc (suc (suc (suc (suc zero)))))))) below = refl
bit_of_place (suc (suc (suc (suc (suc (suc (suc (suc (suc i))))))))) below = absurd (omega arith)

names_more : (n i : ℕ) (test : Bool) → i < 9 → (bit_at n i == 1) ≡ test
    → names_before n (i + 1) ≡ names_before n i ++ map name (cond test (get_or all_known i Core ∷ []) [])
names_more n i test below is =
    ap (map name) (filter_more (λ k. bit_at n (bit k) == 1) all_known i Core below)
    ∙ map-append name (filter (λ k. bit_at n (bit k) == 1) (take i all_known)) (cond (bit_at n (bit (get_or all_known i Core)) == 1) (get_or all_known i Core ∷ []) [])
    ∙ ap (λ t. names_before n i ++ map name (cond t (get_or all_known i Core ∷ []) [])) (ap (λ b. bit_at n b == 1) (bit_of_place i below) ∙ is)

-- the next name, where its bit is set
pub names_with : (n i : ℕ) → i < 9 → bit_at n i ≡ 1 → names_before n (i + 1) ≡ names_before n i ++ name (get_or all_known i Core) ∷ []
names_with n i below set = names_more n i true below (grind (arith, nat_tests))

-- and none, where it is not
pub names_without : (n i : ℕ) → i < 9 → (bit_at n i ≡ 1 → ⊥) → names_before n (i + 1) ≡ names_before n i
names_without n i below clear = names_more n i false below (grind (arith, nat_tests)) ∙ append-nil (names_before n i)

-- the test of a bit
pub bit_is_set : (n i : ℕ) → bit_and (n / 2 ^ i) 1 ≡ 1 → bit_at n i ≡ 1
bit_is_set n i e = sym (shr_and_one n i) ∙ e

pub bit_is_clear : (n i : ℕ) → (bit_and (n / 2 ^ i) 1 ≡ 1 → ⊥) → bit_at n i ≡ 1 → ⊥
bit_is_clear n i clear e = clear (shr_and_one n i ∙ e)

-- what was written, and one item more
module _ {W : Type 0} (took : W → List ℕ → W → Type 0) (f g h : Formatter W) where
  pub item_written : (xs : List (List ℕ)) (x : List ℕ) (ys : List (List ℕ)) (first : Bool) → first ≡ is_nil xs → ys ≡ xs ++ x ∷ []
      → HasWritten took f (opened_text xs) g → HasWritten took g (item first x) h → HasWritten took f (opened_text ys) h
  item_written xs x ys first is all so_far more =
      put_two took f g h (opened_text xs) (item first x) (opened_text ys) so_far more (ap (λ b. opened_text xs ++ item b x) is ∙ opened_more xs x ∙ ap opened_text (sym all))
