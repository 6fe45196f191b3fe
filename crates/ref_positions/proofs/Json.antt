-- What was passed of the tokens of a text of JSON.
use Rattle.std.proofs.Common.{◌≡◌, ◌<◌, ◌≤◌, ℕ, ◌+◌, ◌-◌, ◌^◌, Bor, List, [], ◌∷◌, ◌++◌, Option, length, take, refl, ap, sym, subst, ◌∙◌, arith, append-nil, append_assoc}
use Rattle.std.proofs.Math.Seq.{take-append_seam}
use Rattle.std.proofs.lemmas.Grind.{common_steps}
use Rattle.std.proofs.lemmas.List.{take_all}
use Rattle.json.specs.Token as json
use Rattle.json.specs.Lex.{tokens}
use Rattle.json.specs.Reads.{token_of}
use Rattle.json.specs.declared.token.Token as code
use Rattle.json.specs.declared.token.Token.TheVariants as codes
use Rattle.ref_positions.specs.Paths.{Path}
use Rattle.ref_positions.specs.Parts.{scalar, value, parts, passed}
use Rattle.ref_positions.specs.Walks.{IsWalk, Passes}
use Rattle.ref_positions.specs.Json.{token_at, tokens_at, tokens_in, IsThrough}
use Rattle.ref_positions.specs.declared.walk.Walk.{Walk}
use Rattle.ref_positions.proofs.Tokens.{passed_snoc, parts_snoc}

tokens_snoc : (ts : List json.Token) (starts : List ℕ) (t : json.Token) (start : ℕ) → length ts ≡ length starts
    → tokens_at (ts ++ t ∷ []) (starts ++ start ∷ []) ≡ tokens_at ts starts ++ token_at t start ∷ []
tokens_snoc [] [] t start is = refl
tokens_snoc [] (s ∷ starts) t start is = absurd (omega (arith, is))
tokens_snoc (x ∷ ts) [] t start is = absurd (omega (arith, is))
tokens_snoc (x ∷ ts) (s ∷ starts) t start is = ap (λ l. token_at x s ∷ l) (tokens_snoc ts starts t start (omega (arith, is)))

tokens_long : (ts : List json.Token) (starts : List ℕ) → length ts ≡ length starts → length (tokens_at ts starts) ≡ length ts
tokens_long [] starts is = refl
tokens_long (x ∷ ts) [] is = absurd (omega (arith, is))
tokens_long (x ∷ ts) (s ∷ starts) is =
    let rest : length (tokens_at ts starts) ≡ length ts = tokens_long ts starts (omega (arith, is)) in
    omega (arith, rest)

-- so many of all tokens were passed, and the rest wasn't
abbrev pub AreRead : List json.Token → List json.Token → List (Option Path) → Walk → ℕ → Type 0
AreRead all rest paths walk n =
    (ts : List json.Token) × (starts : List ℕ) × (all ≡ ts ++ rest) × (length ts ≡ n) × (length starts ≡ n)
    × IsWalk paths walk n (passed (value []) (tokens_at ts starts)) (parts (value []) 0 (tokens_at ts starts))

pub none_read : (all rest : List json.Token) (paths : List (Option Path)) (walk : Walk) → rest ≡ all → IsWalk paths walk 0 (value []) [] → AreRead all rest paths walk 0
none_read all rest paths walk is w = ([], [], sym is, refl, refl, w)

pub one_more_read : (all rest left : List json.Token) (paths : List (Option Path)) (old new : Walk) (n : ℕ) (t : json.Token) (start : ℕ) → n < 2 ^ 64 - 1 → rest ≡ t ∷ left → Passes paths old new n (token_at t start)
    → AreRead all rest paths old n → AreRead all left paths new (n + 1)
one_more_read all rest left paths old new n t start lt is passes are =
    let ts = are.0 in
    let starts = are.1 in
    let same : length ts ≡ length starts = are.3 ∙ sym are.4 in
    let before = tokens_at ts starts in
    let as_many : length before ≡ length ts = tokens_long ts starts same in
    let long : n ≡ 0 + length before = omega (arith, as_many, are.3) in (
      ts ++ t ∷ [],
      starts ++ start ∷ [],
      are.2 ∙ ap (λ l. ts ++ l) is ∙ sym (append_assoc ts (t ∷ []) left),
      grind (arith, common_steps, are.3),
      grind (arith, common_steps, are.4),
      rw (tokens_snoc ts starts t start same, passed_snoc (value []) before (token_at t start), parts_snoc (value []) 0 n before (token_at t start) long)
          (passes (passed (value []) before) (parts (value []) 0 before) lt are.5),
    )

pub is_through : (text : List ℕ) (paths : List (Option Path)) (walk : Walk) (rest : List json.Token) (n : ℕ) (are : AreRead (tokens text) rest paths walk n) → are.0 ≡ tokens_in text → IsThrough text paths walk
is_through text paths walk rest n are is = (
  are.1,
  are.4 ∙ sym are.3 ∙ ap length is,
  subst (λ (m : ℕ). IsWalk paths walk m (passed (value []) (tokens_at (tokens_in text) are.1)) (parts (value []) 0 (tokens_at (tokens_in text) are.1))) (sym are.4)
      (subst (λ (ts : List json.Token). IsWalk paths walk n (passed (value []) (tokens_at ts are.1)) (parts (value []) 0 (tokens_at ts are.1))) is are.5),
)

-- no token is left
pub through_all : (text : List ℕ) (paths : List (Option Path)) (walk : Walk) (rest : List json.Token) (n : ℕ) → rest ≡ [] → n ≤ length text → AreRead (tokens text) rest paths walk n → IsThrough text paths walk
through_all text paths walk rest n none few are =
    let all : tokens text ≡ are.0 = are.2 ∙ ap (λ l. are.0 ++ l) none ∙ append-nil are.0 in
    let long : length (tokens text) ≡ n = ap length all ∙ are.3 in
    is_through text paths walk rest n are (sym all ∙ sym (take_all (length text + 1) (tokens text) (omega (arith, long))))

-- as many were passed as may be
pub through_many : (text : List ℕ) (paths : List (Option Path)) (walk : Walk) (rest : List json.Token) (n : ℕ) → n ≡ length text + 1 → AreRead (tokens text) rest paths walk n → IsThrough text paths walk
through_many text paths walk rest n many are =
    let same : length text + 1 ≡ length are.0 = sym many ∙ sym are.3 in
    is_through text paths walk rest n are
    (sym (ap (λ l. take (length text + 1) l) are.2 ∙ ap (λ m. take m (are.0 ++ rest)) same ∙ take-append_seam are.0 rest))

-- a token that is none of these is a scalar
pub is_scalar_at : (t : code.Token) (start : ℕ) → (t ≡ codes.BeginObject → ⊥) → (t ≡ codes.EndObject → ⊥) → (t ≡ codes.BeginArray → ⊥) → (t ≡ codes.EndArray → ⊥) → ((s : Bor (List ℕ)) → t ≡ codes.Key s → ⊥) → token_at (token_of t) start ≡ scalar start
is_scalar_at codes.BeginObject start a b c d e = absurd (a refl)
is_scalar_at codes.EndObject start a b c d e = absurd (b refl)
is_scalar_at codes.BeginArray start a b c d e = absurd (c refl)
is_scalar_at codes.EndArray start a b c d e = absurd (d refl)
is_scalar_at (codes.Key s) start a b c d e = absurd (e s refl)
is_scalar_at (codes.String s) start a b c d e = refl
is_scalar_at (codes.Number s) start a b c d e = refl
is_scalar_at (codes.Bool b1) start a b c d e = refl
is_scalar_at codes.Null start a b c d e = refl
is_scalar_at codes.Bad start a b c d e = refl
