-- The last of a list, where the list grows at its end.
use Rattle.std.proofs.Common.{◌≡◌, ℕ, List, [], ◌∷◌, ◌++◌, true, ◌&&◌, filter, Option, Some, None, is_some, refl, sym, ap, ◌∙◌, true≢false, bytes_eq}
use Rattle.std.specs.List.{last_or}
use Rattle.std.specs.Option.{option_or}
use Rattle.std.proofs.lemmas.List.Elements.{filter-append}
use Rattle.ref_definitions.specs.Places.{Place}
use Rattle.ref_definitions.specs.Resources.{last_under}
use Rattle.ref_definitions.specs.Anchors.{Named, last_named}

kept : {X : Type 0} (x : X) (xs : List X) (o : Option X) → option_or (last_or (Some x) xs) o ≡ last_or (Some x) xs
kept x [] o = refl
kept x (y ∷ xs) o = kept y xs o

last_or-or : {X : Type 0} (o : Option X) (xs : List X) → last_or o xs ≡ option_or (last_or None xs) o
last_or-or o [] = refl
last_or-or o (x ∷ xs) = sym (kept x xs o)

last_or-append : {X : Type 0} (o : Option X) (xs ys : List X) → last_or o (xs ++ ys) ≡ last_or (last_or o xs) ys
last_or-append o [] ys = refl
last_or-append o (x ∷ xs) ys = last_or-append (Some x) xs ys

-- the last of two lists joined is that of the second, or else that of the first
pub last_of_both : {X : Type 0} (xs ys : List X) → last_or None (xs ++ ys) ≡ option_or (last_or None ys) (last_or None xs)
last_of_both xs ys = last_or-append None xs ys ∙ last_or-or (last_or None xs) ys

pub last_there : {X : Type 0} (x : X) (xs : List X) → is_some (last_or (Some x) xs) ≡ true
last_there x [] = refl
last_there x (y ∷ xs) = last_there y xs

one_left : {X : Type 0} (o p : Option X) → is_some o ≡ true → is_some (option_or o p) ≡ true
one_left None p there = absurd (true≢false (sym there))
one_left (Some x) p there = refl

one_right : {X : Type 0} (o p : Option X) → is_some p ≡ true → is_some (option_or o p) ≡ true
one_right None p there = there
one_right (Some x) p there = refl

pub last_stays : {X : Type 0} (xs ys : List X) → is_some (last_or None xs) ≡ true → is_some (last_or None (xs ++ ys)) ≡ true
last_stays xs ys there = ap is_some (last_of_both xs ys) ∙ one_right (last_or None ys) (last_or None xs) there

pub last_after : {X : Type 0} (xs ys : List X) → is_some (last_or None ys) ≡ true → is_some (last_or None (xs ++ ys)) ≡ true
last_after xs ys there = ap is_some (last_of_both xs ys) ∙ one_left (last_or None ys) (last_or None xs) there

pub last_under_both : (uri : List ℕ) (entries more : List (List ℕ × Place)) → last_under uri (entries ++ more) ≡ option_or (last_under uri more) (last_under uri entries)
last_under_both uri entries more =
    let under = λ (e : List ℕ × Place). bytes_eq e.0 uri in
    ap (last_or None) (filter-append under entries more) ∙ last_of_both (filter under entries) (filter under more)

pub last_named_both : (uri name : List ℕ) (entries more : List Named) → last_named uri name (entries ++ more) ≡ option_or (last_named uri name more) (last_named uri name entries)
last_named_both uri name entries more =
    let here = λ (e : Named). bytes_eq e.uri uri && bytes_eq e.name name in
    ap (last_or None) (filter-append here entries more) ∙ last_of_both (filter here entries) (filter here more)
