-- The segments and the triples of a text to which more is appended.
use Rattle.std.proofs.Common.{◌≡◌, ◌≢◌, ℕ, ◌+◌, ◌-◌, ◌<◌, ◌≤◌, false, true, List, [], ◌∷◌, ◌++◌, length, take, drop, get_or, eqb, slice_range, refl, sym, ap, ◌∙◌, subst, arith}
use Rattle.std.proofs.lemmas.Bool.{ne_eqb}
use Rattle.std.proofs.lemmas.List.{take-append-drop, drop-append-le, take-append-le, take_at, length-drop, drop_more, get_or-take, get_or-drop, drop-drop, length-take-le}
use Rattle.std.proofs.lemmas.List.Elements.{All-from_get_or}
use Rattle.std.proofs.lemmas.List.Splits.{slice_split_none, slice_split_at}
use Rattle.std.proofs.lemmas.Str.{IsAscii-drop}
use Rattle.std.specs.Str.{IsAscii}
use Rattle.ref_uri.specs.Characters.{begins_with_hex_digits, has_whole_triples}
use Rattle.ref_uri.specs.DotSegments.{segments}
use Rattle.ref_uri.proofs.EncodedLemmas.{whole_at}
use Rattle.ref_uri.proofs.NormalLemmas.{Past, after_percent}

-- the text, and what is appended
pub with_appended : (buffer text : List ℕ) (n : ℕ) → take n buffer ≡ text → buffer ≡ text ++ drop n buffer
with_appended buffer text n front = sym (take-append-drop n buffer) ∙ ap (λ t. t ++ drop n buffer) front

-- what is left of the text
pub left_of : (buffer text : List ℕ) (at n : ℕ) → take n buffer ≡ text → length text ≡ n → at ≤ n → slice_range buffer at n ≡ drop at text
left_of buffer text at n front long within =
    ap (λ t. take (n - at) (drop at t)) (with_appended buffer text n front) ∙ ap (take (n - at)) (drop-append-le at text (drop n buffer) (omega arith))
    ∙ take_at (drop at text) (drop n buffer) (n - at) (omega (arith, length-drop at text))

-- the front of it
pub front_of : (buffer text : List ℕ) (at len n : ℕ) → take n buffer ≡ text → length text ≡ n → at + len ≤ n → slice_range buffer at (at + len) ≡ take len (drop at text)
front_of buffer text at len n front long within =
    let e : at + len - at ≡ len = omega arith in
    ap (λ k. take k (drop at buffer)) e ∙ ap (λ t. take len (drop at t)) (with_appended buffer text n front)
    ∙ ap (take len) (drop-append-le at text (drop n buffer) (omega arith))
    ∙ take-append-le len (drop at text) (drop n buffer) (omega (arith, length-drop at text))

-- a path with no slash is one segment
pub only_segment : (path : List ℕ) → ((i : ℕ) → i < length path → get_or path i 0 ≢ 47) → segments path ≡ path ∷ []
only_segment path none = slice_split_none (λ c. eqb c 47) path (All-from_get_or (λ c. eqb c 47 ≡ false) path 0 (λ i lt. ne_eqb (get_or path i 0) 47 (none i lt)))

-- a character that is in a text cuts it
pub cut_at : (text : List ℕ) (len c : ℕ) → len < length text → get_or text len 0 ≡ c → text ≡ take len text ++ c ∷ drop (len + 1) text
cut_at text len c within is = sym (take-append-drop len text) ∙ ap (λ t. take len text ++ t) (drop_more text len 0 within ∙ ap (λ x. x ∷ drop (len + 1) text) is)

-- a character of what is left of the text
pub character_of : (buffer text : List ℕ) (at i j n : ℕ) → take n buffer ≡ text → j ≡ at + i → j < n → get_or buffer j 0 ≡ get_or (drop at text) i 0
character_of buffer text at i j n front is within =
    sym (get_or-take n buffer j 0 within) ∙ ap (λ t. get_or t j 0) front ∙ ap (λ k. get_or text k 0) is ∙ sym (get_or-drop at text i 0)

-- up to its first slash a path is a segment
pub first_segment : (path : List ℕ) (len : ℕ) → len < length path → get_or path len 0 ≡ 47 → ((i : ℕ) → i < len → get_or path i 0 ≢ 47) → segments path ≡ take len path ∷ segments (drop (len + 1) path)
first_segment path len within slash none =
    ap segments (cut_at path len 47 within slash)
    ∙ slice_split_at (λ c. eqb c 47) (take len path) 47 (drop (len + 1) path)
    (All-from_get_or (λ c. eqb c 47 ≡ false) (take len path) 0 (λ i lt. let below : i < len = omega (arith, length-take-le len path) in ap (λ c. eqb c 47) (get_or-take len path i 0 below) ∙ ne_eqb (get_or path i 0) 47 (none i below)))
    refl

-- Where the first `%` of what is left of a text is, and what follows it.
pub record AtPercent (text : List ℕ) (at len : ℕ) : Type 0 where
  pub cut : drop at text ≡ take len (drop at text) ++ 37 ∷ drop (at + len + 1) text
  pub none : (i : ℕ) → i < length (take len (drop at text)) → get_or (take len (drop at text)) i 0 ≢ 37
  pub digits : begins_with_hex_digits (drop (at + len + 1) text) ≡ true
  pub behind : Past (drop (at + len + 1) text)

pub at_percent : (text : List ℕ) (at len : ℕ) → IsAscii text → has_whole_triples (drop at text) ≡ true → len < length (drop at text) → get_or (drop at text) len 0 ≡ 37 → ((i : ℕ) → i < len → get_or (drop at text) i 0 ≢ 37) → AtPercent text at len
at_percent text at len ascii whole within percent none =
    let left = drop at text in
    let further : at + (len + 1) ≡ at + len + 1 = omega arith in
    let cut : left ≡ take len left ++ 37 ∷ drop (at + len + 1) text = cut_at left len 37 within percent ∙ ap (λ t. take len left ++ 37 ∷ t) (drop-drop (len + 1) at text ∙ ap (λ k. drop k text) further) in
    record {
      cut = cut;
      none = λ i lt e. let below : i < len = omega (arith, length-take-le len left) in none i below (sym (get_or-take len left i 0 below) ∙ e);
      digits = whole_at (take len left) (drop (at + len + 1) text) (subst (λ (t : List ℕ). has_whole_triples t ≡ true) cut whole);
      behind = after_percent left (take len left) (drop (at + len + 1) text) cut (IsAscii-drop text at ascii) whole;
    }
