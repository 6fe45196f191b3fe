-- A text of one line without marks is its own bytes.
use Rattle.std.proofs.Common.{◌≡◌, ◌≢◌, ℕ, Bool, true, false, ◌==◌, List, [], ◌∷◌, ◌++◌, Some, option_map, All, refl, sym, ap, ◌∙◌, append-nil, append_assoc}
use Rattle.std.proofs.lemmas.List.Elements.{All-head, All-tail}
use Rattle.std.proofs.lemmas.Bool.{ne_eqb, eqb-true}
use Rattle.ref_yaml.specs.Flow.{with_feeds, with_quotes, is_white, folded}
use Rattle.ref_yaml.specs.Escapes.{unescaped}
use Rattle.ref_yaml.specs.Scalars.{plain_text, single_text, double_text}
use Rattle.ref_yaml.specs.Passing.{IsWithoutMark, IsNoReturn}

unequal : (a b : ℕ) → a ≢ b → (a == b) ≡ false
unequal a b apart = ne_eqb a b apart

first : (mark b : ℕ) (xs : List ℕ) → All (IsWithoutMark mark) (b ∷ xs) → IsWithoutMark mark b
first mark b xs all = All-head (IsWithoutMark mark) b xs all

rest : (mark b : ℕ) (xs : List ℕ) → All (IsWithoutMark mark) (b ∷ xs) → All (IsWithoutMark mark) xs
rest mark b xs all = All-tail (IsWithoutMark mark) b xs all

pub without_returns : (xs : List ℕ) → All IsNoReturn xs → with_feeds false xs ≡ xs
without_returns [] all = refl
without_returns (b ∷ xs) all = rw (unequal b 13 (All-head IsNoReturn b xs all)) (ap (λ ys. b ∷ ys) (without_returns xs (All-tail IsNoReturn b xs all)))

feeds_same : (mark : ℕ) (xs : List ℕ) → All (IsWithoutMark mark) xs → with_feeds false xs ≡ xs
feeds_same mark [] all = refl
feeds_same mark (b ∷ xs) all = rw (unequal b 13 (first mark b xs all).1) (ap (λ ys. b ∷ ys) (feeds_same mark xs (rest mark b xs all)))

folded_next : (escapes : Bool) (mark : ℕ) (white : List ℕ) (b : ℕ) (xs : List ℕ) (w : Bool) → is_white b ≡ w → (escapes ≡ true → mark ≡ 92) → IsWithoutMark mark b
    → folded escapes false (white ++ b ∷ []) 0 false xs ≡ (white ++ b ∷ []) ++ xs → folded escapes false [] 0 false xs ≡ xs → folded escapes false white 0 false (b ∷ xs) ≡ white ++ b ∷ xs
folded_next escapes mark white b xs true is_w is one after_white after = rw (unequal b 10 one.0, is_w) (after_white ∙ append_assoc white (b ∷ []) xs)
folded_next true mark white b xs false is_w is one after_white after = rw (unequal b 10 one.0, is_w, unequal b 92 (λ same. one.2 (same ∙ sym (is refl)))) (ap (λ ys. white ++ b ∷ ys) after)
folded_next false mark white b xs false is_w is one after_white after = rw (unequal b 10 one.0, is_w) (ap (λ ys. white ++ b ∷ ys) after)

-- white space before them is kept with them
folded_same : (escapes : Bool) (mark : ℕ) (white xs : List ℕ) → (escapes ≡ true → mark ≡ 92) → All (IsWithoutMark mark) xs → folded escapes false white 0 false xs ≡ white ++ xs
folded_same escapes mark white [] is all = sym (append-nil white)
folded_same escapes mark white (b ∷ xs) is all =
    folded_next escapes mark white b xs (is_white b) refl is (first mark b xs all) (folded_same escapes mark (white ++ b ∷ []) xs is (rest mark b xs all)) (folded_same escapes mark [] xs is (rest mark b xs all))

quotes_same : (xs : List ℕ) → All (IsWithoutMark 39) xs → with_quotes false xs ≡ xs
quotes_same [] all = refl
quotes_same (b ∷ xs) all = rw (unequal b 39 (first 39 b xs all).2) (ap (λ ys. b ∷ ys) (quotes_same xs (rest 39 b xs all)))

unescaped_same : (xs : List ℕ) → All (IsWithoutMark 92) xs → unescaped xs ≡ Some xs
unescaped_same [] all = refl
unescaped_same (b ∷ xs) all = rw (unequal b 92 (first 92 b xs all).2) (ap (option_map (λ s. b ∷ s)) (unescaped_same xs (rest 92 b xs all)))

pub plain_same : (mark : ℕ) (xs : List ℕ) → All (IsWithoutMark mark) xs → xs ≡ plain_text xs
plain_same mark xs all = sym (ap (folded false false [] 0 false) (feeds_same mark xs all) ∙ folded_same false mark [] xs (λ no. absurd (cc)) all)

pub single_same : (xs : List ℕ) → All (IsWithoutMark 39) xs → xs ≡ single_text xs
single_same xs all = plain_same 39 xs all ∙ sym (ap plain_text (quotes_same xs all))

pub double_same : (xs : List ℕ) → All (IsWithoutMark 92) xs → Some xs ≡ double_text xs
double_same xs all = sym (ap (λ ys. unescaped (folded true false [] 0 false ys)) (feeds_same 92 xs all) ∙ ap unescaped (folded_same true 92 [] xs (λ is. refl) all) ∙ unescaped_same xs all)

-- A text of one line is folded to itself, with a backslash before it or not.
record Kept (xs : List ℕ) : Type 0 where
  pub white : (before : List ℕ) → folded true false before 0 false xs ≡ before ++ xs
  pub after : folded true true [] 0 false xs ≡ 92 ∷ xs

kept_byte : (before : List ℕ) (b : ℕ) (xs : List ℕ) (w mark : Bool) → is_white b ≡ w → (b == 92) ≡ mark → b ≢ 10 → Kept xs → folded true false before 0 false (b ∷ xs) ≡ before ++ b ∷ xs
kept_byte before b xs true mark is_w is_m apart kept = rw (unequal b 10 apart, is_w) (kept.white (before ++ b ∷ []) ∙ append_assoc before (b ∷ []) xs)
kept_byte before b xs false true is_w is_m apart kept =
    let same : b ≡ 92 = eqb-true b 92 is_m in
    rw (unequal b 10 apart, is_w, is_m) (ap (λ ys. before ++ ys) kept.after ∙ ap (λ x. before ++ x ∷ xs) (sym same))
kept_byte before b xs false false is_w is_m apart kept = rw (unequal b 10 apart, is_w, is_m) (ap (λ ys. before ++ b ∷ ys) (kept.white []))

kept : (xs : List ℕ) → All (IsWithoutMark 10) xs → Kept xs
kept [] all = record { white = λ before. sym (append-nil before); after = refl }
kept (b ∷ xs) all =
    let apart : b ≢ 10 = (first 10 b xs all).0 in
    let more : Kept xs = kept xs (rest 10 b xs all) in
    record {
      white = λ before. kept_byte before b xs (is_white b) (b == 92) refl refl apart more;
      after = rw (unequal b 10 apart) (ap (λ ys. 92 ∷ b ∷ ys) (more.white []));
    }

pub double_line : (xs : List ℕ) → All (IsWithoutMark 10) xs → unescaped xs ≡ double_text xs
double_line xs all = sym (ap (λ ys. unescaped (folded true false [] 0 false ys)) (feeds_same 10 xs all) ∙ ap unescaped ((kept xs all).white []))
