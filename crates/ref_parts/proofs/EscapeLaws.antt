-- What the loops of `src/escape.rt` keep.
use Rattle.std.proofs.Common.{◌≡◌, ◌≢◌, ℕ, ◌+◌, ◌<◌, ◌≤◌, Result, Ok, Err, OnOk, OnErr, false, cond, eqb, ltb, List, [], ◌∷◌, ◌++◌, length, get_or, take, drop, All, Option, Some, None, ◌⊎◌, inl, inr, ⊎_elim, sym, refl, ap, ◌∙◌, subst, append_assoc, append-nil, arith, length-append}
use Rattle.std.specs.Prelude.{is_ok, is_err, true}
use Rattle.std.specs.List.{position_or_len, before_first, after_first}
use Rattle.std.proofs.lemmas.Bool.{false≢true, cond-false, cond_both, ltb-true, ltb-false, or_parts, or_cases, eqb-true}
use Rattle.std.proofs.lemmas.Bool.Decides.{nat_tests}
use Rattle.std.proofs.lemmas.List.Sums.{split_at_first, passes_at_first, fails_before_first}
use Rattle.std.proofs.lemmas.List.Elements.{All-head, All-tail, All-from_get_or}
use Rattle.std.proofs.lemmas.List.{length-take, take_all, get_or-take}
use Rattle.ref_parts.specs.Pointer.{is_escaped, escaped_byte, escape, first_escape, unescape}
use Rattle.ref_parts.proofs.PointerLaws.{unescape_other, unescape_front}

-- ---- escaping

length_escaped_byte : (b : ℕ) → length (escaped_byte b) ≡ cond (is_escaped b) 1 0 + 1
length_escaped_byte b = grind (arith, nat_tests)

-- no byte becomes shorter
pub length-le-escape : (bs : List ℕ) → length bs ≤ length (escape bs)
length-le-escape [] = omega arith
length-le-escape (b ∷ bs) =
    omega (arith, length-le-escape bs, length_escaped_byte b, length-append (escaped_byte b) (escape bs))

escaped_byte_plain : (b : ℕ) → is_escaped b ≡ false → escaped_byte b ≡ b ∷ []
escaped_byte_plain b plain =
    let parts = or_parts (eqb b 126) (eqb b 47) plain in
    cond-false _ _ _ parts.0 ∙ cond-false _ _ _ parts.1

-- a front without such bytes stays
pub escape_front : (front rest : List ℕ) → All (λ b. is_escaped b ≡ false) front → escape (front ++ rest) ≡ front ++ escape rest
escape_front [] rest plain = refl
escape_front (b ∷ front) rest plain =
    ap (λ x. x ++ escape (front ++ rest)) (escaped_byte_plain b (All-head (λ x. is_escaped x ≡ false) b front plain))
    ∙ ap (λ x. b ∷ x) (escape_front front rest (All-tail (λ x. is_escaped x ≡ false) b front plain))

-- the byte there is written escaped, and what is before it stays
pub record CutsAt (bs : List ℕ) (i : ℕ) : Type 0 where
  pub within : i < length bs
  pub byte : (get_or bs i 0 ≡ 126) ⊎ (get_or bs i 0 ≡ 47)
  pub text : escape bs ≡ take i bs ++ (escaped_byte (get_or bs i 0) ++ escape (drop (i + 1) bs))

-- what is before the first such byte is plain
front_plain : (bs : List ℕ) → All (λ b. is_escaped b ≡ false) (before_first is_escaped bs)
front_plain bs =
    let n = position_or_len is_escaped bs in
    λ k d less.
    let below : k < n = omega (arith, length-take n bs) in
    ap is_escaped (get_or-take n bs k d below) ∙ fails_before_first is_escaped bs k d below

first_from_some : (bs : List ℕ) (i : ℕ) → first_escape bs ≡ Some i → (position_or_len is_escaped bs < length bs) × (position_or_len is_escaped bs ≡ i)
first_from_some bs i =
    cond_both (ltb (position_or_len is_escaped bs) (length bs)) (Some (position_or_len is_escaped bs)) None (λ o. o ≡ Some i → (position_or_len is_escaped bs < length bs) × (position_or_len is_escaped bs ≡ i))
    (λ yes found. (ltb-true _ _ yes, cc))
    (λ no found. absurd (cc))

cuts_at_first : (bs : List ℕ) → position_or_len is_escaped bs < length bs → CutsAt bs (position_or_len is_escaped bs)
cuts_at_first bs within =
    let i = position_or_len is_escaped bs in
    let front = before_first is_escaped bs in
    let rest = get_or bs i 0 ∷ after_first is_escaped bs in
    record {
      within = within;
      byte = ⊎_elim (λ e. inl (eqb-true _ 126 e)) (λ e. inr (eqb-true _ 47 e)) (or_cases (eqb (get_or bs i 0) 126) (eqb (get_or bs i 0) 47) (passes_at_first is_escaped bs 0 within));
      text = ap escape (split_at_first is_escaped bs 0 within) ∙ escape_front front rest (front_plain bs);
    }

-- where `first_escape` finds a byte
CutsAt-first_escape : (bs : List ℕ) (i : ℕ) → first_escape bs ≡ Some i → CutsAt bs i
CutsAt-first_escape bs i found =
    let parts = first_from_some bs i found in
    subst (CutsAt bs) parts.1 (cuts_at_first bs parts.0)

-- the same, from the call of the function of that name on a text's bytes
pub CutsAt-found : (rest bytes : List ℕ) (found : Option ℕ) (i : ℕ) → bytes ≡ rest → found ≡ first_escape bytes → found ≡ Some i → CutsAt rest i
CutsAt-found rest bytes found i same is some = CutsAt-first_escape rest i (ap first_escape (sym same) ∙ sym is ∙ some)

-- where it finds none, nothing is escaped
pub escape_none : (bs : List ℕ) → first_escape bs ≡ None → escape bs ≡ bs
escape_none bs =
    let n = position_or_len is_escaped bs in
    cond_both (ltb n (length bs)) (Some n) None (λ o. o ≡ None → escape bs ≡ bs)
    (λ yes none. absurd (cc))
    (λ no none.
    let whole = take_all n bs (ltb-false n (length bs) no) in
    let plain = subst (All (λ b. is_escaped b ≡ false)) whole (front_plain bs) in
    ap escape (sym (append-nil bs)) ∙ escape_front bs [] plain ∙ append-nil bs)

-- what a refused push says, and one that is not refused
pub on_err : {T E P : Type 0} (r : Result T E) → P → OnErr r P
on_err (Ok x) p = tt
on_err (Err e) p = p

pub at_err : {T E P : Type 0} (r : Result T E) → is_err r ≡ true → OnErr r P → P
at_err (Ok x) is p = absurd (false≢true is)
at_err (Err e) is p = p

pub on_ok_pushed : {T E X : Type 0} (r : Result T E) (new pushed old wanted : X) → new ≡ cond (is_ok r) pushed old → pushed ≡ wanted → OnOk r (new ≡ wanted)
on_ok_pushed (Ok x) new pushed old wanted is same = is ∙ same
on_ok_pushed (Err e) new pushed old wanted is same = tt

-- ---- unescaping

-- a `~` before no digit 1 or 0 stays
pub unescape_kept : (after : List ℕ) → ((rest : List ℕ) → after ≢ 49 ∷ rest) → ((rest : List ℕ) → after ≢ 48 ∷ rest) → unescape (126 ∷ after) ≡ 126 ∷ unescape after
unescape_kept [] not_one not_zero = refl
unescape_kept (b ∷ rest) not_one not_zero =
    unescape_other b rest (λ e. not_zero rest (ap (λ x. x ∷ rest) e)) (λ e. not_one rest (ap (λ x. x ∷ rest) e))

abbrev pub NoTilde : List ℕ → Type 0
NoTilde bs = (i : ℕ) → i < length bs → get_or bs i 0 ≢ 126

pub unescape_run : (run rest : List ℕ) → NoTilde run → unescape (run ++ rest) ≡ run ++ unescape rest
unescape_run run rest plain = unescape_front run rest (All-from_get_or (λ b. b ≢ 126) run 0 plain)

-- a text without `~` stays
pub unescape_plain : (bs : List ℕ) → NoTilde bs → unescape bs ≡ bs
unescape_plain bs plain = ap unescape (sym (append-nil bs)) ∙ unescape_run bs [] plain ∙ append-nil bs

-- a run up to the next `~` is copied
pub unescape_turn : (key rest run after : List ℕ) → rest ≡ run ++ (126 ∷ after) → NoTilde run → (key ++ run) ++ unescape (126 ∷ after) ≡ key ++ unescape rest
unescape_turn key rest run after cut plain =
    append_assoc key run (unescape (126 ∷ after)) ∙ ap (λ x. key ++ x) (sym (ap unescape cut ∙ unescape_run run (126 ∷ after) plain))

-- a run up to the next escaped byte is copied, and that byte is escaped
pub escape_turn : (buffer rest : List ℕ) (i : ℕ) (token : List ℕ) → CutsAt rest i → token ≡ escaped_byte (get_or rest i 0) → ((buffer ++ take i rest) ++ token) ++ escape (drop (i + 1) rest) ≡ buffer ++ escape rest
escape_turn buffer rest i token cut is_token =
    ap (λ x. ((buffer ++ take i rest) ++ x) ++ escape (drop (i + 1) rest)) is_token
    ∙ append_assoc (buffer ++ take i rest) (escaped_byte (get_or rest i 0)) (escape (drop (i + 1) rest))
    ∙ append_assoc buffer (take i rest) (escaped_byte (get_or rest i 0) ++ escape (drop (i + 1) rest))
    ∙ ap (λ x. buffer ++ x) (sym cut.text)

pub length_token : (rest : List ℕ) (i : ℕ) → CutsAt rest i → length (escaped_byte (get_or rest i 0)) ≡ 2
length_token rest i cut =
    ⊎_elim (λ e. ap (λ b. length (escaped_byte b)) e) (λ e. ap (λ b. length (escaped_byte b)) e) cut.byte

pub below_ascii : (rest : List ℕ) (i : ℕ) → CutsAt rest i → get_or rest i 0 < 128
below_ascii rest i cut = ⊎_elim (λ e. omega (arith, e)) (λ e. omega (arith, e)) cut.byte

-- how long those parts are
pub length_turn : (rest : List ℕ) (i : ℕ) → CutsAt rest i → length (escape rest) ≡ i + (2 + length (escape (drop (i + 1) rest)))
length_turn rest i cut =
    let token = length_token rest i cut in
    ap length cut.text ∙ omega (arith, token, cut.within, length-take i rest, length-append (take i rest) (escaped_byte (get_or rest i 0) ++ escape (drop (i + 1) rest)), length-append (escaped_byte (get_or rest i 0)) (escape (drop (i + 1) rest)))
