-- How far a text is in normal form.
use Rattle.std.proofs.Common.{◌≡◌, ◌≢◌, ℕ, ◌+◌, ◌<◌, ◌≤◌, true, false, ◌&&◌, List, [], ◌∷◌, ◌++◌, append_assoc, length, ◌-◌, append-nil, length-drop, take, drop, get_or, eqb, sym, ap, ◌∙◌, subst, arith}
use Rattle.std.specs.Char.{is_ascii_hexdigit}
use Rattle.std.proofs.lemmas.Bool.{and_parts, and_from, false≢true, eqb-true, eq-eqb}
use Rattle.std.proofs.lemmas.List.{map-id, take-append-drop, drop-drop, get_or-take, get_or-drop, length-take-le}
use Rattle.std.proofs.Math.Seq.{take-add, take-length, drop-length}
use Rattle.ref_uri.specs.Characters.{begins_with_hex_digits, has_whole_triples}
use Rattle.ref_uri.specs.Normal.{normal_triple, normal_text}
use Rattle.ref_uri.specs.inner.Scans.{begins_with_triple}
use Rattle.ref_uri.specs.inner.Written.{IsNormalUpTo}
use Rattle.ref_uri.proofs.EncodedLemmas.{whole_at}
use Rattle.ref_uri.proofs.NormalLemmas.{normal_none, normal_run, normal_triple_front, whole_after}

-- a run without `%`, and what follows it
run_in_front : (text : List ℕ) (n : ℕ) → n ≤ length text → ((k : ℕ) → k < n → get_or text k 0 ≢ 37) → normal_text text ≡ take n text ++ normal_text (drop n text)
run_in_front text n within none =
    ap normal_text (sym (take-append-drop n text))
    ∙ normal_run (λ c. c) (take n text) (drop n text) (λ k lt e. let below : k < n = omega (arith, length-take-le n text within) in none k below (sym (get_or-take n text k 0 below) ∙ e))
    ∙ ap (λ t. t ++ normal_text (drop n text)) (map-id (take n text))

whole_drop : (text : List ℕ) (n : ℕ) → has_whole_triples text ≡ true → has_whole_triples (drop n text) ≡ true
whole_drop text n whole = whole_after (take n text) (drop n text) (subst (λ t. has_whole_triples t ≡ true) (sym (take-append-drop n text)) whole)

-- a `%` in whole triples begins one
triple_at : (text : List ℕ) → has_whole_triples text ≡ true → 0 < length text → get_or text 0 0 ≡ 37 → begins_with_triple text ≡ true
triple_at [] whole some is = absurd (omega (arith, some))
triple_at (c ∷ rest) whole some is = and_from (eqb c 37) (begins_with_hex_digits rest) (eq-eqb c 37 is) (whole_at [] rest (subst (λ x. has_whole_triples (x ∷ rest) ≡ true) is whole))

-- a text is in normal form up to its first `%`
pub up_to_percent : (text : List ℕ) (n : ℕ) → has_whole_triples text ≡ true → n ≤ length text → ((k : ℕ) → k < n → get_or text k 0 ≢ 37) → (n < length text → get_or text n 0 ≡ 37) → IsNormalUpTo text n
up_to_percent text n whole within none found =
    record {
      within = within;
      front = run_in_front text n within none;
      behind = whole_drop text n whole;
      triple = λ lt.
          let zero : n + 0 ≡ n = omega arith in
          triple_at (drop n text) (whole_drop text n whole) (omega (arith, length-drop n text)) (get_or-drop n text 0 0 ∙ ap (λ k. get_or text k 0) zero ∙ found lt);
    }

-- The triple that begins at this place.
pub record TripleAt (text : List ℕ) (at : ℕ) : Type 0 where
  pub enough : at + 3 ≤ length text
  pub high : is_ascii_hexdigit (get_or text (at + 1) 0) ≡ true
  pub low : is_ascii_hexdigit (get_or text (at + 2) 0) ≡ true
  pub shape : drop at text ≡ 37 ∷ get_or text (at + 1) 0 ∷ get_or text (at + 2) 0 ∷ drop (at + 3) text

triple_parts : (text : List ℕ) → begins_with_triple text ≡ true → (3 ≤ length text) × (is_ascii_hexdigit (get_or text 1 0) ≡ true) × (is_ascii_hexdigit (get_or text 2 0) ≡ true) × (text ≡ 37 ∷ get_or text 1 0 ∷ get_or text 2 0 ∷ drop 3 text)
triple_parts [] h = absurd (false≢true h)
triple_parts (c ∷ []) h = absurd (false≢true (and_parts (eqb c 37) false h).1)
triple_parts (c ∷ a ∷ []) h = absurd (false≢true (and_parts (eqb c 37) false h).1)
triple_parts (c ∷ a ∷ b ∷ rest) h =
    let both = and_parts (eqb c 37) (is_ascii_hexdigit a && is_ascii_hexdigit b) h in
    let digits = and_parts (is_ascii_hexdigit a) (is_ascii_hexdigit b) both.1 in
    (omega arith, digits.0, digits.1, ap (λ x. x ∷ a ∷ b ∷ rest) (eqb-true c 37 both.0))

pub triple_there : (text : List ℕ) (at : ℕ) → IsNormalUpTo text at → at < length text → TripleAt text at
triple_there text at is lt =
    let parts = triple_parts (drop at text) (is.triple lt) in
    record {
      enough = omega (arith, parts.0, length-drop at text);
      high = subst (λ c. is_ascii_hexdigit c ≡ true) (get_or-drop at text 1 0) parts.1;
      low = subst (λ c. is_ascii_hexdigit c ≡ true) (get_or-drop at text 2 0) parts.2;
      shape = parts.3 ∙ ap (λ x. 37 ∷ x ∷ get_or (drop at text) 2 0 ∷ drop 3 (drop at text)) (get_or-drop at text 1 0)
          ∙ ap (λ x. 37 ∷ get_or text (at + 1) 0 ∷ x ∷ drop 3 (drop at text)) (get_or-drop at text 2 0)
          ∙ ap (λ t. 37 ∷ get_or text (at + 1) 0 ∷ get_or text (at + 2) 0 ∷ t) (drop-drop 3 at text);
    }

-- a triple before what is left
pub triple_more : (text : List ℕ) (at : ℕ) → TripleAt text at → normal_text (drop at text) ≡ normal_triple (λ c. c) (get_or text (at + 1) 0) (get_or text (at + 2) 0) ++ normal_text (drop (at + 3) text)
triple_more text at t = ap normal_text t.shape ∙ normal_triple_front (λ c. c) (get_or text (at + 1) 0) (get_or text (at + 2) 0) (drop (at + 3) text) t.high t.low

-- up to the next `%`, where the triple is in normal form
pub up_to_next : (text : List ℕ) (at next : ℕ) → IsNormalUpTo text at → at < length text → normal_triple (λ c. c) (get_or text (at + 1) 0) (get_or text (at + 2) 0) ≡ 37 ∷ get_or text (at + 1) 0 ∷ get_or text (at + 2) 0 ∷ []
    → at + 3 ≤ next → next ≤ length text → ((k : ℕ) → at + 3 ≤ k → k < next → get_or text k 0 ≢ 37) → (next < length text → get_or text next 0 ≡ 37) → IsNormalUpTo text next
up_to_next text at next is lt normal from within none found =
    let t = triple_there text at is lt in
    let rest = drop (at + 3) text in
    let n = next - (at + 3) in
    let back : at + 3 + n ≡ next = omega (arith, from) in
    let whole = subst (λ r. has_whole_triples r ≡ true) (drop-drop 3 at text) (whole_drop (drop at text) 3 is.behind) in
    let more = up_to_percent rest n whole (omega (arith, from, within, length-drop (at + 3) text))
    (λ k below e. none (at + 3 + k) (omega arith) (omega (arith, from, below)) (sym (get_or-drop (at + 3) text k 0) ∙ e))
    (λ less. get_or-drop (at + 3) text n 0 ∙ ap (λ k. get_or text k 0) back ∙ found (omega (arith, less, from, length-drop (at + 3) text))) in
    let behind : drop n rest ≡ drop next text = drop-drop n (at + 3) text ∙ ap (λ k. drop k text) back in
    let front : take (at + 3) text ≡ take at text ++ 37 ∷ get_or text (at + 1) 0 ∷ get_or text (at + 2) 0 ∷ [] = take-add at 3 text ∙ ap (λ r. take at text ++ take 3 r) t.shape in
    record {
      within = within;
      front = is.front ∙ ap (λ r. take at text ++ r) (triple_more text at t ∙ ap (λ r. r ++ normal_text rest) normal)
          ∙ sym (append_assoc (take at text) (37 ∷ get_or text (at + 1) 0 ∷ get_or text (at + 2) 0 ∷ []) (normal_text rest))
          ∙ ap (λ r. r ++ normal_text rest) (sym front)
          ∙ ap (λ r. take (at + 3) text ++ r) more.front
          ∙ sym (append_assoc (take (at + 3) text) (take n rest) (normal_text (drop n rest)))
          ∙ ap (λ r. r ++ normal_text (drop n rest)) (sym (take-add (at + 3) n text))
          ∙ ap (λ k. take k text ++ normal_text (drop n rest)) back
          ∙ ap (λ r. take next text ++ normal_text r) behind;
      behind = subst (λ r. has_whole_triples r ≡ true) behind more.behind;
      triple = λ less. subst (λ r. begins_with_triple r ≡ true) behind (more.triple (omega (arith, less, from, length-drop (at + 3) text)));
    }

-- what is in normal form, and a triple more of what is appended
pub triple_turn : (before text : List ℕ) (at : ℕ) → IsNormalUpTo text at → at < length text → ((before ++ take at text) ++ normal_triple (λ c. c) (get_or text (at + 1) 0) (get_or text (at + 2) 0)) ++ normal_text (drop (at + 3) text) ≡ before ++ normal_text text
triple_turn before text at is lt =
    let t = triple_there text at is lt in
    let triple = normal_triple (λ c. c) (get_or text (at + 1) 0) (get_or text (at + 2) 0) in
    append_assoc (before ++ take at text) triple (normal_text (drop (at + 3) text))
    ∙ append_assoc before (take at text) (triple ++ normal_text (drop (at + 3) text))
    ∙ ap (λ r. before ++ (take at text ++ r)) (sym (triple_more text at t))
    ∙ ap (λ r. before ++ r) (sym is.front)

pub after_triple : (text : List ℕ) (at : ℕ) → IsNormalUpTo text at → has_whole_triples (drop (at + 3) text) ≡ true
after_triple text at is = subst (λ r. has_whole_triples r ≡ true) (drop-drop 3 at text) (whole_drop (drop at text) 3 is.behind)

-- a text that is in normal form to its end
pub normal_to_end : (text : List ℕ) (at : ℕ) → IsNormalUpTo text at → length text ≤ at → normal_text text ≡ text
normal_to_end text at is past =
    let end : at ≡ length text = omega (arith, is.within, past) in
    is.front ∙ ap (λ k. take k text ++ normal_text (drop k text)) end ∙ ap (λ t. t ++ normal_text (drop (length text) text)) (take-length text)
    ∙ ap (λ t. text ++ normal_text t) (drop-length text)
    ∙ ap (λ t. text ++ t) (normal_none (λ c. c))
    ∙ append-nil text
