-- A text cut at its first `/`, and one without a byte.
use Rattle.std.proofs.Common.{◌≡◌, ◌≢◌, ℕ, suc, ◌+◌, ◌<◌, Bool, true, false, ◌||◌, eqb, ltb, List, ◌∷◌, ◌++◌, length, get_or, take, drop, All, Some, None, refl, sym, ap, subst, ◌∙◌, arith}
use Rattle.std.proofs.lemmas.List.Elements.{All-append, All-cons}
use Rattle.std.specs.List.{position, position_or_len}
use Rattle.std.proofs.Math.Seq.{split_at}
use Rattle.std.proofs.lemmas.Bool.{cond_both, ltb-false, eqb-true, eqb-false}
use Rattle.std.proofs.lemmas.List.Sums.{fails_before_first}
use Rattle.std.proofs.lemmas.List.Quantifiers.{position-Some}
use Rattle.std.proofs.lemmas.List.{length-take, get_or-take}

-- where the first byte is that passes a test, and that none before it does
pub first_at : (test : ℕ → Bool) (text : List ℕ) (place : ℕ) → position test text ≡ Some place
    → (place < length text) × (test (get_or text place 0) ≡ true) × All (λ b. test b ≡ false) (take place text)
first_at test text place found =
    let at = position-Some test text place 0 found in (
      at.0,
      at.1,
      λ k d less.
          let below : k < place = omega (arith, length-take place text) in
          ap test (get_or-take place text k d below) ∙ (position-Some test text place d found).2 k below,
    )

-- what is before a `/`, and what follows
pub cut_at_one : (text : List ℕ) (place : ℕ) → place < length text → get_or text place 0 ≡ 47 → text ≡ take place text ++ (47 ∷ drop (place + 1) text)
cut_at_one text place less slash =
    let next : suc place ≡ place + 1 = omega (arith) in
    split_at text place 0 less ∙ ap (λ n. take place text ++ (get_or text place 0 ∷ drop n text)) next ∙ ap (λ b. take place text ++ (b ∷ drop (place + 1) text)) slash

-- where the first `/` is, and that none is before it
pub first_slash : (text : List ℕ) (place : ℕ) → position (λ b. eqb b 47) text ≡ Some place → (place < length text) × (get_or text place 0 ≡ 47) × All (λ b. b ≢ 47) (take place text)
first_slash text place found =
    let at = first_at (λ b. eqb b 47) text place found in
    (at.0, eqb-true (get_or text place 0) 47 at.1, λ k d less. eqb-false (get_or (take place text) k d) 47 (at.2 k d less))

-- where no byte passes a test
none_at : (test : ℕ → Bool) (text : List ℕ) → position test text ≡ None → All (λ b. test b ≡ false) text
none_at test text =
    let n = position_or_len test text in
    cond_both (ltb n (length text)) (Some n) None (λ o. o ≡ None → All (λ b. test b ≡ false) text)
    (λ yes none. absurd (cc))
    (λ no none k d less. fails_before_first test text k d (omega (arith, ltb-false n (length text) no)))

-- where there is none
pub uncut : (byte : ℕ) (text : List ℕ) → position (λ b. eqb b byte) text ≡ None → All (λ b. b ≢ byte) text
uncut byte text none = λ k d less. eqb-false (get_or text k d) byte (none_at (λ b. eqb b byte) text none k d less)

-- a byte of a pointer's text that isn't part of a key as it is
abbrev pub is_mark : ℕ → Bool
is_mark b = eqb b 47 || eqb b 37 || eqb b 126

-- no byte of a text is a `/`, a `%`, or a `~`
abbrev pub IsUnmarked : List ℕ → Type 0
IsUnmarked text = All (λ b. b ≢ 47) text × All (λ b. b ≢ 37) text × All (λ b. b ≢ 126) text

no_mark : (b : ℕ) → is_mark b ≡ false → (b ≢ 47) × (b ≢ 37) × (b ≢ 126)
no_mark b is =
    let last = neither (eqb b 47 || eqb b 37) (eqb b 126) is in
    let others = neither (eqb b 47) (eqb b 37) last.0 in
    (eqb-false b 47 others.0, eqb-false b 37 others.1, eqb-false b 126 last.1)
  where
    neither : (a b : Bool) → (a || b) ≡ false → (a ≡ false) × (b ≡ false)
    neither true b is = absurd (cc)
    neither false b is = (refl, is)

unmarked : (text : List ℕ) → All (λ b. is_mark b ≡ false) text → IsUnmarked text
unmarked text all = (λ k d less. (no_mark (get_or text k d) (all k d less)).0, λ k d less. (no_mark (get_or text k d) (all k d less)).1, λ k d less. (no_mark (get_or text k d) (all k d less)).2)

-- before the first mark
pub before_mark : (text : List ℕ) (place : ℕ) → position is_mark text ≡ Some place → (place < length text) × IsUnmarked (take place text)
before_mark text place found = (let at = first_at is_mark text place found in (at.0, unmarked (take place text) at.2))

-- and where there is none
pub without_mark : (text : List ℕ) → position is_mark text ≡ None → IsUnmarked text
without_mark text none = unmarked text (none_at is_mark text none)

-- a byte that neither a token nor what follows its `/` has, the text hasn't
pub in_neither : (byte : ℕ) (text token more : List ℕ) → text ≡ token ++ (47 ∷ more) → 47 ≢ byte → All (λ b. b ≢ byte) token → All (λ b. b ≢ byte) more → All (λ b. b ≢ byte) text
in_neither byte text token more cut slash front rest =
    subst (All (λ b. b ≢ byte)) (sym cut) (All-append (λ b. b ≢ byte) token (47 ∷ more) front (All-cons (λ b. b ≢ byte) 47 more slash rest))
