-- The normal form of an encoded text, by its runs and triples.
use Rattle.std.proofs.Common.{◌≡◌, ◌≢◌, ℕ, suc, ◌+◌, add-one, append_assoc, append-nil, subst, ◌<◌, true, List, [], ◌∷◌, ◌++◌, length, get_or, drop, map, ◌≤◌, refl, sym, ap, ◌∙◌, arith}
use Rattle.std.specs.Char.{is_ascii_hexdigit}
use Rattle.std.proofs.lemmas.Bool.{and_parts, ne_eqb, false≢true}
use Rattle.std.proofs.lemmas.Str.{IsAscii-drop}
use Rattle.std.specs.Str.{IsAscii}
use Rattle.ref_uri.proofs.EncodedLemmas.{whole_at}
use Rattle.ref_uri.specs.Characters.{begins_with_hex_digits, has_whole_triples}
use Rattle.ref_uri.specs.Normal.{normal_triple, normal_encoded}

pub normal_none : (fold : ℕ → ℕ) → normal_encoded fold [] ≡ []
unfolding normal_encoded
normal_none fold = refl

-- a character that is no `%` in front
pub normal_character : (fold : ℕ → ℕ) (c : ℕ) (rest : List ℕ) → c ≢ 37 → normal_encoded fold (c ∷ rest) ≡ fold c ∷ normal_encoded fold rest
unfolding normal_encoded
normal_character fold c [] ne = refl
normal_character fold c (a ∷ []) ne = refl
normal_character fold c (a ∷ b ∷ rest) ne = rw (ne_eqb c 37 ne, normal_encoded) refl

-- a run without `%` in front
pub normal_run : (fold : ℕ → ℕ) (run rest : List ℕ) → ((i : ℕ) → i < length run → get_or run i 0 ≢ 37) → normal_encoded fold (run ++ rest) ≡ map fold run ++ normal_encoded fold rest
normal_run fold [] rest none = refl
normal_run fold (c ∷ run) rest none =
    normal_character fold c (run ++ rest) (none 0 (omega arith))
    ∙ ap (λ t. fold c ∷ t) (normal_run fold run rest (λ i lt. none (suc i) (omega arith)))

-- a text without `%`
pub normal_plain : (fold : ℕ → ℕ) (run : List ℕ) → ((i : ℕ) → i < length run → get_or run i 0 ≢ 37) → normal_encoded fold run ≡ map fold run
normal_plain fold run none = ap (normal_encoded fold) (sym (append-nil run)) ∙ normal_run fold run [] none ∙ ap (λ t. map fold run ++ t) (normal_none fold) ∙ append-nil (map fold run)

-- a triple in front
pub normal_triple_front : (fold : ℕ → ℕ) (high low : ℕ) (rest : List ℕ) → is_ascii_hexdigit high ≡ true → is_ascii_hexdigit low ≡ true → normal_encoded fold (37 ∷ high ∷ low ∷ rest) ≡ normal_triple fold high low ++ normal_encoded fold rest
unfolding normal_encoded
normal_triple_front fold high low rest h l = refl

-- what follows in a text of whole triples
pub whole_after : (p q : List ℕ) → has_whole_triples (p ++ q) ≡ true → has_whole_triples q ≡ true
whole_after [] q h = h
whole_after (c ∷ p) q h = whole_after p q (and_parts _ _ h).1

-- Two hex digits at the front, and what follows them.
pub record Digits (text : List ℕ) : Type 0 where
  pub enough : 2 ≤ length text
  pub high : is_ascii_hexdigit (get_or text 0 0) ≡ true
  pub low : is_ascii_hexdigit (get_or text 1 0) ≡ true
  pub shape : text ≡ get_or text 0 0 ∷ get_or text 1 0 ∷ drop 2 text

pub digits_in_front : (text : List ℕ) → begins_with_hex_digits text ≡ true → Digits text
digits_in_front [] h = absurd (false≢true h)
digits_in_front (a ∷ []) h = absurd (false≢true h)
digits_in_front (a ∷ b ∷ rest) h =
    let both = and_parts (is_ascii_hexdigit a) (is_ascii_hexdigit b) h in
    record { enough = omega arith; high = both.0; low = both.1; shape = refl }

-- what follows the element after a front
pub drop_past : (front : List ℕ) (c : ℕ) (rest : List ℕ) → drop (length front + 1) (front ++ c ∷ rest) ≡ rest
drop_past front c rest = ap (λ n. drop n (front ++ c ∷ rest)) (add-one (length front)) ∙ at_seam front
  where
    at_seam : (a : List ℕ) → drop (suc (length a)) (a ++ c ∷ rest) ≡ rest
    at_seam [] = refl
    at_seam (x ∷ a) = at_seam a

-- The text after the first `%` of a text of whole triples.
pub record Past (text : List ℕ) : Type 0 where
  pub digits : Digits text
  pub ascii : IsAscii text
  pub whole : has_whole_triples (drop 2 text) ≡ true

pub after_percent : (text run rest : List ℕ) → text ≡ run ++ 37 ∷ rest → IsAscii text → has_whole_triples text ≡ true → Past rest
after_percent text run rest cut ascii whole =
    let here : has_whole_triples (run ++ 37 ∷ rest) ≡ true = subst (λ (t : List ℕ). has_whole_triples t ≡ true) cut whole in
    let digits = digits_in_front rest (whole_at run rest here) in
    let inside : has_whole_triples rest ≡ true = whole_after (run ++ 37 ∷ []) rest (subst (λ (t : List ℕ). has_whole_triples t ≡ true) (sym (append_assoc run (37 ∷ []) rest)) here) in
    let past : drop (length run + 1) (run ++ 37 ∷ rest) ≡ rest = drop_past run 37 rest in
    record {
      digits = digits;
      ascii = subst IsAscii past (IsAscii-drop (run ++ 37 ∷ rest) (length run + 1) (subst IsAscii cut ascii));
      whole = after_two rest inside;
    }
  where
    after_two : (t : List ℕ) → has_whole_triples t ≡ true → has_whole_triples (drop 2 t) ≡ true
    after_two [] h = refl
    after_two (a ∷ []) h = refl
    after_two (a ∷ b ∷ t) h = whole_after (a ∷ b ∷ []) t h

-- one run and one triple more of what is appended
pub normal_turn : (fold : ℕ → ℕ) (before text run rest : List ℕ) → text ≡ run ++ 37 ∷ rest → ((i : ℕ) → i < length run → get_or run i 0 ≢ 37) → Digits rest → ((before ++ map fold run) ++ normal_triple fold (get_or rest 0 0) (get_or rest 1 0)) ++ normal_encoded fold (drop 2 rest) ≡ before ++ normal_encoded fold text
normal_turn fold before text run rest cut none digits =
    append_assoc (before ++ map fold run) (normal_triple fold (get_or rest 0 0) (get_or rest 1 0)) (normal_encoded fold (drop 2 rest))
    ∙ append_assoc before (map fold run) (normal_triple fold (get_or rest 0 0) (get_or rest 1 0) ++ normal_encoded fold (drop 2 rest))
    ∙ ap (λ t. before ++ (map fold run ++ t)) (sym (normal_triple_front fold (get_or rest 0 0) (get_or rest 1 0) (drop 2 rest) digits.high digits.low) ∙ ap (λ t. normal_encoded fold (37 ∷ t)) (sym digits.shape))
    ∙ ap (λ t. before ++ t) (sym (normal_run fold run (37 ∷ rest) none) ∙ ap (normal_encoded fold) (sym cut))
