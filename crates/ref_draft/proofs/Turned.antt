-- A text is compared with each of a list from either side.
use Rattle.std.proofs.Common.{◌≡◌, ℕ, List, [], ◌∷◌, Bool, true, false, ◌||◌, refl, sym, ap, ◌∙◌}
use Rattle.std.specs.List.{list_any}
use Rattle.std.specs.Str.{bytes_eq}
use Rattle.std.proofs.lemmas.Slice.Eq.{bytes_eq-Decides}
use Rattle.ref_draft.specs.Keywords.{is_one_of}

as_true : (a b : Bool) → (a ≡ true → b ≡ true) → (b ≡ true → a ≡ true) → a ≡ b
as_true true b to from = sym (to refl)
as_true false true to from = from refl
as_true false false to from = refl

eq_turned : (k l : List ℕ) → bytes_eq k l ≡ bytes_eq l k
eq_turned k l =
    as_true (bytes_eq k l) (bytes_eq l k) (λ e. (bytes_eq-Decides l k).1 (sym ((bytes_eq-Decides k l).0 e))) (λ e. (bytes_eq-Decides k l).1 (sym ((bytes_eq-Decides l k).0 e)))

pub turned : (keyword : List ℕ) (keywords : List (List ℕ)) → list_any (λ k. bytes_eq k keyword) keywords ≡ is_one_of keyword keywords
turned keyword [] = refl
turned keyword (k ∷ ks) = ap (λ b. b || list_any (λ k. bytes_eq k keyword) ks) (eq_turned k keyword) ∙ ap (λ b. bytes_eq keyword k || b) (turned keyword ks)
