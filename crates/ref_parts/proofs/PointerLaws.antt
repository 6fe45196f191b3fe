-- The laws of pointer text.
use Rattle.std.proofs.Common.{◌≡◌, ◌≢◌, ℕ, ◌&&◌, eqb, List, [], ◌∷◌, ◌++◌, All, ◌⊎◌, inl, inr, ⊎_elim, sym, refl, ap, ◌∙◌, subst, arith}
use Rattle.std.proofs.lemmas.Bool.{cond-true, cond-false, cases_eq, cases_Bool, eq-eqb, ne_eqb, and_from, and_left, and_right}
use Rattle.std.proofs.lemmas.List.Elements.{All-head, All-tail}
use Rattle.ref_parts.specs.Pointer.{escape, escaped_byte, replace_escape, unescape}

-- ---- unescaping

-- a byte that isn't `~` stays
pub replace_escape_skip : (digit byte b : ℕ) (rest : List ℕ) → b ≢ 126 → replace_escape digit byte (b ∷ rest) ≡ b ∷ replace_escape digit byte rest
replace_escape_skip digit byte b [] other = refl
replace_escape_skip digit byte b (c ∷ rest) other = cond-false _ _ _ (and_left (eqb b 126) (eqb c digit) (ne_eqb b 126 other))

-- `~` before the digit becomes, with it, the byte
pub replace_escape_hit : (digit byte : ℕ) (rest : List ℕ) → replace_escape digit byte (126 ∷ digit ∷ rest) ≡ byte ∷ replace_escape digit byte rest
replace_escape_hit digit byte rest = cond-true _ _ _ (and_from (eqb 126 126) (eqb digit digit) refl (eq-eqb digit digit refl))

-- `~` before another byte stays
pub replace_escape_miss : (digit byte c : ℕ) (rest : List ℕ) → c ≢ digit → replace_escape digit byte (126 ∷ c ∷ rest) ≡ 126 ∷ replace_escape digit byte (c ∷ rest)
replace_escape_miss digit byte c rest other = cond-false _ _ _ (and_right (eqb 126 126) (eqb c digit) (ne_eqb c digit other))

-- the first byte after a replacement is the first byte before it, or the one put in
replace_escape_first : (digit byte b : ℕ) (rest : List ℕ) → (c : ℕ) × (after : List ℕ) × (replace_escape digit byte (b ∷ rest) ≡ c ∷ after) × ((c ≡ b) ⊎ (c ≡ byte))
replace_escape_first digit byte b [] = (b, [], refl, inl refl)
replace_escape_first digit byte b (c ∷ rest) =
    ⊎_elim
    (λ hit. (byte, replace_escape digit byte rest, cond-true _ _ _ hit, inr refl))
    (λ miss. (b, replace_escape digit byte (c ∷ rest), cond-false _ _ _ miss, inl refl))
    (cases_Bool (eqb b 126 && eqb c digit))

-- ---- a token as a key, by its front

pub unescape_skip : (b : ℕ) (rest : List ℕ) → b ≢ 126 → unescape (b ∷ rest) ≡ b ∷ unescape rest
unescape_skip b rest other = ap (replace_escape 48 126) (replace_escape_skip 49 47 b rest other) ∙ replace_escape_skip 48 126 b _ other

pub unescape_slash : (rest : List ℕ) → unescape (126 ∷ 49 ∷ rest) ≡ 47 ∷ unescape rest
unescape_slash rest = ap (replace_escape 48 126) (replace_escape_hit 49 47 rest) ∙ replace_escape_skip 48 126 47 _ (omega arith)

pub unescape_tilde : (rest : List ℕ) → unescape (126 ∷ 48 ∷ rest) ≡ 126 ∷ unescape rest
unescape_tilde rest =
    ap (replace_escape 48 126) (replace_escape_miss 49 47 48 rest (omega arith) ∙ ap (λ x. 126 ∷ x) (replace_escape_skip 49 47 48 rest (omega arith)))
    ∙ replace_escape_hit 48 126 (replace_escape 49 47 rest)

pub unescape_other : (b : ℕ) (rest : List ℕ) → b ≢ 48 → b ≢ 49 → unescape (126 ∷ b ∷ rest) ≡ 126 ∷ unescape (b ∷ rest)
unescape_other b rest not_zero not_one =
    let first = replace_escape_first 49 47 b rest in
    let kept : first.0 ≢ 48 = ⊎_elim (λ e. omega (arith, e)) (λ e. omega (arith, e)) first.3 in
    ap (replace_escape 48 126) (replace_escape_miss 49 47 b rest not_one ∙ ap (λ x. 126 ∷ x) first.2)
    ∙ replace_escape_miss 48 126 first.0 first.1 kept
    ∙ ap (λ x. 126 ∷ replace_escape 48 126 x) (sym first.2)

-- a front without `~` stays
pub unescape_front : (front rest : List ℕ) → All (λ b. b ≢ 126) front → unescape (front ++ rest) ≡ front ++ unescape rest
unescape_front [] rest plain = refl
unescape_front (b ∷ front) rest plain =
    unescape_skip b (front ++ rest) (All-head (λ b. b ≢ 126) b front plain)
    ∙ ap (λ x. b ∷ x) (unescape_front front rest (All-tail (λ b. b ≢ 126) b front plain))

-- ---- what is escaped and unescaped is the key

unescape_escaped_byte : (b : ℕ) (rest : List ℕ) → unescape (escaped_byte b ++ rest) ≡ b ∷ unescape rest
unescape_escaped_byte b rest =
    ⊎_elim
    (λ (e : b ≡ 126). subst (λ v. unescape (escaped_byte v ++ rest) ≡ v ∷ unescape rest) (sym e) (unescape_tilde rest))
    (λ not_tilde. ⊎_elim
    (λ (e : b ≡ 47). subst (λ v. unescape (escaped_byte v ++ rest) ≡ v ∷ unescape rest) (sym e) (unescape_slash rest))
    (λ not_slash. ap (λ x. unescape (x ++ rest)) (cond-false (eqb b 126) _ _ (ne_eqb b 126 not_tilde) ∙ cond-false (eqb b 47) _ _ (ne_eqb b 47 not_slash)) ∙ unescape_skip b rest not_tilde)
    (cases_eq b 47))
    (cases_eq b 126)

pub unescape-escape : (key : List ℕ) → unescape (escape key) ≡ key
unescape-escape [] = refl
unescape-escape (b ∷ key) = unescape_escaped_byte b (escape key) ∙ ap (λ x. b ∷ x) (unescape-escape key)
