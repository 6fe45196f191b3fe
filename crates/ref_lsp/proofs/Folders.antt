-- The folders that two URIs are both in.
use Rattle.std.proofs.Common.{◌≡◌, ℕ, zero, suc, ◌+◌, ◌-◌, ◌<◌, ◌≤◌, ◌==◌, Bool, true, false, List, [], ◌∷◌, length, get_or, nat_lt, if◌then◌else◌, refl, sym, subst, arith}
use Rattle.std.specs.Str.{IsUtf8, IsCharBoundary}
use Rattle.std.proofs.lemmas.Grind.{common_steps}
use Rattle.std.proofs.lemmas.Str.{IsCharBoundary-after_ascii}
use Rattle.ref_lsp.specs.Relative.{with_byte, shared}

-- how many bytes they have, of which so many were passed and so many are in the folders that were found, by how many those of the rest have
abbrev pub joined : ℕ → ℕ → ℕ → ℕ
joined start passed n = if nat_lt 0 n then passed + n else start

pub within_base : (base uri : List ℕ) → shared base uri ≤ length base
within_base [] uri = omega arith
within_base (b ∷ base) [] = omega arith
within_base (b ∷ base) (c ∷ uri) = let more = within_base base uri in grind (arith, common_steps)

pub within_uri : (base uri : List ℕ) → shared base uri ≤ length uri
within_uri [] uri = omega arith
within_uri (b ∷ base) [] = omega arith
within_uri (b ∷ base) (c ∷ uri) = let more = within_uri base uri in grind (arith, common_steps)

one_before : (uri : List ℕ) (n : ℕ) → get_or uri (suc n - 1) 0 ≡ 47 → get_or uri n 0 ≡ 47
one_before uri n is =
    let e : suc n - 1 ≡ n = omega arith in
    subst (λ (k : ℕ). get_or uri k 0 ≡ 47) e is

-- the byte before their end, by whether the first one is a slash and by those of the rest
last_of : (c : ℕ) (uri : List ℕ) (is : Bool) (n : ℕ) → (is ≡ true → c ≡ 47) → (0 < n → get_or uri (n - 1) 0 ≡ 47) → 0 < with_byte is n → get_or (c ∷ uri) (with_byte is n - 1) 0 ≡ 47
last_of c uri true zero slash more some = slash refl
last_of c uri false zero slash more some = absurd (omega arith)
last_of c uri true (suc n) slash more some =
    let longer : with_byte true (suc n) ≡ suc n + 1 = grind (arith, common_steps) in
    let e : with_byte true (suc n) - 1 ≡ suc n = omega (arith, longer) in
    rw e (one_before uri n (more (omega arith)))
last_of c uri false (suc n) slash more some =
    let longer : with_byte false (suc n) ≡ suc n + 1 = grind (arith, common_steps) in
    let e : with_byte false (suc n) - 1 ≡ suc n = omega (arith, longer) in
    rw e (one_before uri n (more (omega arith)))

pub after_slash : (base uri : List ℕ) → 0 < shared base uri → get_or uri (shared base uri - 1) 0 ≡ 47
after_slash [] uri some = absurd (omega arith)
after_slash (b ∷ base) [] some = absurd (omega arith)
after_slash (b ∷ base) (c ∷ uri) some =
    let more = after_slash base uri in
    let last = last_of c uri (b == 47) (shared base uri) in
    grind (arith, common_steps)

-- a text may be cut after them
pub cut_after : (base uri : List ℕ) → IsUtf8 uri → 0 < shared base uri → IsCharBoundary uri (shared base uri)
cut_after base uri utf8 some =
    let n = shared base uri in
    let within = within_uri base uri in
    let slash = after_slash base uri some in
    let back : n - 1 + 1 ≡ n = omega arith in
    subst (IsCharBoundary uri) back (IsCharBoundary-after_ascii uri (n - 1) utf8 (omega arith) (omega (arith, slash)))

pub cut_at : (base uri text : List ℕ) (n : ℕ) → n ≡ shared base uri → uri ≡ text → IsUtf8 text → 0 < n → IsCharBoundary text n
cut_at base uri text n is same utf8 some =
    subst (λ (t : List ℕ). IsCharBoundary t n) same
    (subst (IsCharBoundary uri) (sym is) (cut_after base uri (subst IsUtf8 (sym same) utf8) (subst (λ (k : ℕ). 0 < k) is some)))
