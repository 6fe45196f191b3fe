-- Decimal numbers that JSON writes as they stand, and which number a text is.
use Rattle.std.proofs.Common.{◌≡◌, ℕ, ◌==◌, ◌||◌, Bool, true, false, if◌then◌else◌, List, [], ◌∷◌, ◌++◌, ◌∙◌, slice_index, refl, ap, sym, append_assoc, drop, Option, Some, None}
use Rattle.std.proofs.lemmas.Bool.{eqb-true}
use Rattle.std.specs.Char.{is_ascii_digit}
use Rattle.serde_json.specs.Data.{Data}
use Rattle.ref_yaml.specs.Core.{parts_of, after_sign, digits, after_digits, fraction, after_fraction, without_zeros, with_point, as_json, json_number, is_one_of, infinite_words, no_number_words, is_decimal, is_infinite, is_in_radix, digits_number, number_value}

joined : (x : Bool) (b : ℕ) (t front rest : List ℕ) → front ++ rest ≡ t → (if x then b ∷ front else []) ++ (if x then rest else b ∷ t) ≡ b ∷ t
joined true b t front rest h = ap (λ l. b ∷ l) h
joined false b t front rest h = refl

digits_joined : (t : List ℕ) → digits t ++ after_digits t ≡ t
digits_joined [] = refl
digits_joined (b ∷ t) = joined (is_ascii_digit b) b t (digits t) (after_digits t) (digits_joined t)

point_joined : (x : Bool) (b : ℕ) (t front rest : List ℕ) → (x ≡ true → b ≡ 46) → front ++ rest ≡ t
    → (if x then 46 ∷ (if x then front else []) else []) ++ (if x then rest else b ∷ t) ≡ b ∷ t
point_joined true b t front rest is h = rw (is refl) (ap (λ l. 46 ∷ l) h)
point_joined false b t front rest is h = refl

fraction_joined : (t : List ℕ) → (if slice_index t 0 == 46 then 46 ∷ fraction t else []) ++ after_fraction t ≡ t
fraction_joined [] = refl
fraction_joined (b ∷ t) = point_joined (b == 46) b t (digits t) (after_digits t) (eqb-true b 46) (digits_joined t)

signed : (x y : Bool) (b : ℕ) (t : List ℕ) → (x ≡ true → b ≡ 45) → y ≡ false → (if x then 45 ∷ [] else []) ++ (if x || y then t else b ∷ t) ≡ b ∷ t
signed true y b t is other = ap (λ c. c ∷ t) (sym (is refl))
signed false true b t is other = cc
signed false false b t is other = refl

sign_joined : (s : List ℕ) → (slice_index s 0 == 43) ≡ false → (if slice_index s 0 == 45 then 45 ∷ [] else []) ++ after_sign s ≡ s
sign_joined [] other = refl
sign_joined (b ∷ t) other = signed (b == 45) (b == 43) b t (eqb-true b 45) other

-- a number without a plus whose digits JSON may have is as JSON writes it
pub as_it_is : (s : List ℕ) → (slice_index s 0 == 43) ≡ false → without_zeros (parts_of s).whole ≡ (parts_of s).whole
    → with_point (parts_of s).point (parts_of s).fraction ≡ (if (parts_of s).point then 46 ∷ (parts_of s).fraction else []) → as_json (parts_of s) ≡ s
unfolding parts_of
as_it_is s other whole point =
    let rest = after_digits (after_sign s) in
    let sign = (if slice_index s 0 == 45 then 45 ∷ [] else []) in
    let dot = (if slice_index rest 0 == 46 then 46 ∷ fraction rest else []) in
    let first : ((sign ++ digits (after_sign s)) ++ dot) ++ after_fraction rest ≡ sign ++ (digits (after_sign s) ++ (dot ++ after_fraction rest)) = simp append_assoc in
    rw (whole, point) (first ∙ ap (λ l. sign ++ (digits (after_sign s) ++ l)) (fraction_joined rest) ∙ ap (λ l. sign ++ l) (digits_joined (after_sign s)) ∙ sign_joined s other)

abbrev choice : (a b c d : Bool) (x y z : Option Data) → Option (Option Data)
choice a b c d x y z = if a then Some x else if b then Some None else if c then Some y else if d then Some z else None

first : (a b c d : Bool) (x y z : Option Data) (v : Data) → a ≡ true → x ≡ Some v → Some (Some v) ≡ choice a b c d x y z
first true b c d x y z v h is = ap Some (sym is)
first false b c d x y z v h is = cc

second : (a b c d : Bool) (x y z : Option Data) (v : Data) → a ≡ false → b ≡ false → c ≡ true → y ≡ Some v → Some (Some v) ≡ choice a b c d x y z
second true b c d x y z v h i j is = cc
second false true c d x y z v h i j is = cc
second false false true d x y z v h i j is = ap Some (sym is)
second false false false d x y z v h i j is = cc

third : (a b c d : Bool) (x y z : Option Data) (v : Data) → a ≡ false → b ≡ false → c ≡ false → d ≡ true → z ≡ Some v → Some (Some v) ≡ choice a b c d x y z
third true b c d x y z v h i j k is = cc
third false true c d x y z v h i j k is = cc
third false false true d x y z v h i j k is = cc
third false false false true x y z v h i j k is = ap Some (sym is)
third false false false false x y z v h i j k is = cc

last : (a b c d : Bool) (x y z : Option Data) → a ≡ false → b ≡ false → c ≡ false → d ≡ false → None ≡ choice a b c d x y z
last true b c d x y z h i j k = cc
last false true c d x y z h i j k = cc
last false false true d x y z h i j k = cc
last false false false true x y z h i j k = cc
last false false false false x y z h i j k = refl

neither : (a b : Bool) → a ≡ false → b ≡ false → (a || b) ≡ false
neither true b h i = h
neither false b h i = i

pub decimal_is : (s : List ℕ) (v : Data) → is_decimal (parts_of s) ≡ true → json_number (as_json (parts_of s)) ≡ Some v → Some (Some v) ≡ number_value s
unfolding number_value
decimal_is s v h is = first (is_decimal (parts_of s)) (is_infinite s) (is_in_radix 111 8 s) (is_in_radix 120 16 s) (json_number (as_json (parts_of s))) (digits_number 8 (drop 2 s)) (digits_number 16 (drop 2 s)) v h is

pub octal_is : (s : List ℕ) (v : Data) → is_decimal (parts_of s) ≡ false → is_one_of infinite_words (after_sign s) ≡ false → is_one_of no_number_words s ≡ false
    → is_in_radix 111 8 s ≡ true → digits_number 8 (drop 2 s) ≡ Some v → Some (Some v) ≡ number_value s
unfolding number_value
octal_is s v h i j k is = second (is_decimal (parts_of s)) (is_infinite s) (is_in_radix 111 8 s) (is_in_radix 120 16 s) (json_number (as_json (parts_of s))) (digits_number 8 (drop 2 s)) (digits_number 16 (drop 2 s)) v
    h (neither (is_one_of infinite_words (after_sign s)) (is_one_of no_number_words s) i j) k is

pub hexadecimal_is : (s : List ℕ) (v : Data) → is_decimal (parts_of s) ≡ false → is_one_of infinite_words (after_sign s) ≡ false → is_one_of no_number_words s ≡ false
    → is_in_radix 111 8 s ≡ false → is_in_radix 120 16 s ≡ true → digits_number 16 (drop 2 s) ≡ Some v → Some (Some v) ≡ number_value s
unfolding number_value
hexadecimal_is s v h i j k l is = third (is_decimal (parts_of s)) (is_infinite s) (is_in_radix 111 8 s) (is_in_radix 120 16 s) (json_number (as_json (parts_of s))) (digits_number 8 (drop 2 s)) (digits_number 16 (drop 2 s)) v
    h (neither (is_one_of infinite_words (after_sign s)) (is_one_of no_number_words s) i j) k l is

pub no_number : (s : List ℕ) → is_decimal (parts_of s) ≡ false → is_one_of infinite_words (after_sign s) ≡ false → is_one_of no_number_words s ≡ false
    → is_in_radix 111 8 s ≡ false → is_in_radix 120 16 s ≡ false → None ≡ number_value s
unfolding number_value
no_number s h i j k l = last (is_decimal (parts_of s)) (is_infinite s) (is_in_radix 111 8 s) (is_in_radix 120 16 s) (json_number (as_json (parts_of s))) (digits_number 8 (drop 2 s)) (digits_number 16 (drop 2 s))
    h (neither (is_one_of infinite_words (after_sign s)) (is_one_of no_number_words s) i j) k l
