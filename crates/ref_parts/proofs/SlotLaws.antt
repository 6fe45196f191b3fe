-- What making the entries of a sorted table rests on: the number of eight bytes, and entries from the last to the first.
use Rattle.std.proofs.Common.{◌≡◌, ℕ, zero, suc, ◌-◌, ◌*◌, ◌^◌, ◌%◌, ◌<◌, ◌≤◌, slice_index_or, min, ltb, true, false, map, List, [], ◌∷◌, ◌++◌, length, take, drop, reverse, append_assoc, append-nil, refl, sym, ap, ◌∙◌, arith}
use Rattle.std.specs.Int.{from_be_bytes, w64}
use Rattle.std.proofs.lemmas.Bool.{ltb-true, ltb-false}
use Rattle.std.proofs.lemmas.List.{reverse-append, take_all, drop_all}
use Rattle.ref_parts.specs.inner.SortedEntries.{big_endian, zeros}

-- one more entry from the end
pub backwards_more : {X Y : Type 0} (f : X → Y) (done : List Y) (old new : List X) (x : X) → old ≡ new ++ x ∷ [] → (done ++ f x ∷ []) ++ map f (reverse new) ≡ done ++ map f (reverse old)
backwards_more f done old new x is =
    append_assoc done (f x ∷ []) (map f (reverse new)) ∙ ap (λ l. done ++ map f l) (sym (reverse-append new (x ∷ []))) ∙ ap (λ l. done ++ map f (reverse l)) (sym is)

-- what `from_be_bytes` gives of them
pub number_of_filled : (bytes : List ℕ) → from_be_bytes w64 (take 8 bytes ++ drop (length bytes) zeros) ≡ big_endian 8 bytes
number_of_filled [] = omega arith
number_of_filled (a ∷ []) = omega arith
number_of_filled (a ∷ b ∷ []) = omega arith
number_of_filled (a ∷ b ∷ c ∷ []) = omega arith
number_of_filled (a ∷ b ∷ c ∷ d ∷ []) = omega arith
number_of_filled (a ∷ b ∷ c ∷ d ∷ e ∷ []) = omega arith
number_of_filled (a ∷ b ∷ c ∷ d ∷ e ∷ f ∷ []) = omega arith
number_of_filled (a ∷ b ∷ c ∷ d ∷ e ∷ f ∷ g ∷ []) = omega arith
number_of_filled (a ∷ b ∷ c ∷ d ∷ e ∷ f ∷ g ∷ h ∷ more) = omega arith

-- the same where there are eight
pub number_of_eight : (bytes : List ℕ) → 8 ≤ length bytes → from_be_bytes w64 (take 8 bytes) ≡ big_endian 8 bytes
number_of_eight bytes long =
    ap (from_be_bytes w64) (sym (ap (λ l. take 8 bytes ++ l) (drop_all (length bytes) zeros long) ∙ append-nil (take 8 bytes))) ∙ number_of_filled bytes

-- the last of eight bytes, after those before them fell out at the top
abbrev pub shifted : List ℕ → ℕ → ℕ
shifted bytes n = from_be_bytes w64 bytes * 2 ^ (8 * (7 - n)) % 18446744073709551616 * 256 % 18446744073709551616

pub number_of_last : (bytes : List ℕ) (n : ℕ) → length bytes ≡ 8 → ((i : ℕ) → slice_index_or bytes i 0 < 256) → n < 8 → shifted bytes n ≡ big_endian 8 (drop (8 - n) bytes)
number_of_last ([]) n is small few = absurd (omega arith)
number_of_last (a ∷ []) n is small few = absurd (omega arith)
number_of_last (a ∷ b ∷ []) n is small few = absurd (omega arith)
number_of_last (a ∷ b ∷ c ∷ []) n is small few = absurd (omega arith)
number_of_last (a ∷ b ∷ c ∷ d ∷ []) n is small few = absurd (omega arith)
number_of_last (a ∷ b ∷ c ∷ d ∷ e ∷ []) n is small few = absurd (omega arith)
number_of_last (a ∷ b ∷ c ∷ d ∷ e ∷ f ∷ []) n is small few = absurd (omega arith)
number_of_last (a ∷ b ∷ c ∷ d ∷ e ∷ f ∷ g ∷ []) n is small few = absurd (omega arith)
number_of_last (a ∷ b ∷ c ∷ d ∷ e ∷ f ∷ g ∷ h ∷ []) zero is small few = omega (arith, small 0, small 1, small 2, small 3, small 4, small 5, small 6, small 7)
number_of_last (a ∷ b ∷ c ∷ d ∷ e ∷ f ∷ g ∷ h ∷ []) (suc zero) is small few = omega (arith, small 0, small 1, small 2, small 3, small 4, small 5, small 6, small 7)
number_of_last (a ∷ b ∷ c ∷ d ∷ e ∷ f ∷ g ∷ h ∷ []) (suc (suc zero)) is small few = omega (arith, small 0, small 1, small 2, small 3, small 4, small 5, small 6, small 7)
number_of_last (a ∷ b ∷ c ∷ d ∷ e ∷ f ∷ g ∷ h ∷ []) (suc (suc (suc zero))) is small few = omega (arith, small 0, small 1, small 2, small 3, small 4, small 5, small 6, small 7)
number_of_last (a ∷ b ∷ c ∷ d ∷ e ∷ f ∷ g ∷ h ∷ []) (suc (suc (suc (suc zero)))) is small few = omega (arith, small 0, small 1, small 2, small 3, small 4, small 5, small 6, small 7)
number_of_last (a ∷ b ∷ c ∷ d ∷ e ∷ f ∷ g ∷ h ∷ []) (suc (suc (suc (suc (suc zero))))) is small few = omega (arith, small 0, small 1, small 2, small 3, small 4, small 5, small 6, small 7)
number_of_last (a ∷ b ∷ c ∷ d ∷ e ∷ f ∷ g ∷ h ∷ []) (suc (suc (suc (suc (suc (suc zero)))))) is small few = omega (arith, small 0, small 1, small 2, small 3, small 4, small 5, small 6, small 7)
number_of_last (a ∷ b ∷ c ∷ d ∷ e ∷ f ∷ g ∷ h ∷ []) (suc (suc (suc (suc (suc (suc (suc zero))))))) is small few = omega (arith, small 0, small 1, small 2, small 3, small 4, small 5, small 6, small 7)
number_of_last (a ∷ b ∷ c ∷ d ∷ e ∷ f ∷ g ∷ h ∷ []) (suc (suc (suc (suc (suc (suc (suc (suc more)))))))) is small few = absurd (omega arith)
number_of_last (a ∷ b ∷ c ∷ d ∷ e ∷ f ∷ g ∷ h ∷ i ∷ more) n is small few = absurd (omega arith)

-- what is copied of the first eight bytes
pub filled : (n : ℕ) (bytes : List ℕ) → n ≡ min (length bytes) 8 → take n bytes ++ drop n zeros ≡ take 8 bytes ++ drop (length bytes) zeros
filled n bytes is =
    elim (ltb (length bytes) 8) as (λ b. ltb (length bytes) 8 ≡ b → take n bytes ++ drop n zeros ≡ take 8 bytes ++ drop (length bytes) zeros) [
      | true ↦ λ yes.
          let short = ltb-true (length bytes) 8 yes in
          ap (λ l. l ++ drop n zeros) (take_all n bytes (omega (arith, is, short)) ∙ sym (take_all 8 bytes (omega (arith, short))))
          ∙ ap (λ k. take 8 bytes ++ drop k zeros) (omega (arith, is, short))
      | false ↦ λ no.
          let long = ltb-false (length bytes) 8 no in
          ap (λ k. take k bytes ++ drop k zeros) {x = n} {y = 8} (omega (arith, is, long)) ∙ ap (λ l. take 8 bytes ++ l) (sym (drop_all (length bytes) zeros (omega (arith, long))))
    ] refl
