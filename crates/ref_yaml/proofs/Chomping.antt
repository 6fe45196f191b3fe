-- Line feeds, and what is before a line of a folded scalar, as a chomping indicator has them.
use Rattle.std.proofs.Common.{◌&&◌, ◌||◌, nat_lt, append_assoc, append-nil, ◌≡◌, ◌≢◌, ℕ, Bool, true, false, ◌+◌, ◌-◌, ◌==◌, zero, suc, List, [], ◌∷◌, ◌++◌, if◌then◌else◌, refl, sym, ap, ◌∙◌, arith}
use Rattle.std.proofs.lemmas.Bool.{ne_eqb}
use Rattle.ref_yaml.specs.Flow.{feeds, between, is_white}
use Rattle.ref_yaml.specs.Block.{chomped, folded_lines, without_indent, last_feeds}

pub chomped_feeds : (c : ℕ) (h : Bool) (m n : ℕ) (t : List ℕ) → chomped c h m (feeds n ++ t) ≡ chomped c h (m + n) t
chomped_feeds c h m zero t = let e : m + 0 ≡ m = omega arith in rw e refl
chomped_feeds c h m (suc n) t = let e : (m + 1) + n ≡ m + suc n = omega arith in chomped_feeds c h (m + 1) n t ∙ ap (λ k. chomped c h k t) e

pub chomped_byte : (c : ℕ) (h : Bool) (n b : ℕ) (t : List ℕ) → b ≢ 10 → chomped c h n (b ∷ t) ≡ feeds n ++ b ∷ chomped c true 0 t
chomped_byte c h n b t apart = rw (ne_eqb b 10 apart) refl

pub chomped_before : (c : ℕ) (h : Bool) (n b : ℕ) (t : List ℕ) → b ≢ 10 → chomped c h 0 (feeds n ++ b ∷ t) ≡ feeds n ++ b ∷ chomped c true 0 t
chomped_before c h n b t apart = let e : 0 + n ≡ n = omega arith in chomped_feeds c h 0 n (b ∷ t) ∙ ap (λ k. chomped c h k (b ∷ t)) e ∙ chomped_byte c h n b t apart

between_by : (c : ℕ) (h : Bool) (n b : ℕ) (t : List ℕ) (one : Bool) → b ≢ 10 → (n == 1) ≡ one
    → chomped c h 0 (between n false ++ b ∷ t) ≡ between n false ++ b ∷ chomped c true 0 t
between_by c h n b t true apart is = rw is (ap (λ x. 32 ∷ x) (chomped_byte c true 0 b t apart))
between_by c h n b t false apart is = rw is (chomped_before c h (n - 1) b t apart)

pub chomped_between : (c : ℕ) (h : Bool) (n b : ℕ) (t : List ℕ) → b ≢ 10 → chomped c h 0 (between n false ++ b ∷ t) ≡ between n false ++ b ∷ chomped c true 0 t
chomped_between c h n b t apart = between_by c h n b t (n == 1) apart refl

-- what is before a line of a folded scalar
abbrev before : Bool → ℕ → List ℕ
before kept n = if kept then feeds n else between n false

first_by : (c : ℕ) (h : Bool) (n b : ℕ) (t : List ℕ) (kept : Bool) → b ≢ 10 → chomped c h 0 (before kept n ++ b ∷ t) ≡ before kept n ++ b ∷ chomped c true 0 t
first_by c h n b t true apart = chomped_before c h n b t apart
first_by c h n b t false apart = chomped_between c h n b t apart

-- what is left of a folded text
abbrev left_of : ℕ → Bool → Bool → Bool → ℕ → ℕ → ℕ → List ℕ → List ℕ → List ℕ
left_of c h inside white n indent left t end = chomped c h 0 (folded_lines inside white n (without_indent indent left t ++ end))

indented : (indent left b : ℕ) (t : List ℕ) → b ≢ 10 → ((b == 32) && nat_lt 0 left) ≡ false → without_indent indent left (b ∷ t) ≡ b ∷ without_indent indent 0 t
indented indent left b t apart other = rw (ne_eqb b 10 apart, other) refl

inside_byte : (white : Bool) (n b : ℕ) (t : List ℕ) → b ≢ 10 → folded_lines true white n (b ∷ t) ≡ b ∷ folded_lines true white n t
inside_byte white n b t apart = rw (ne_eqb b 10 apart) refl

first_byte : (white : Bool) (n b : ℕ) (t : List ℕ) → b ≢ 10 → folded_lines false white n (b ∷ t) ≡ before (white || is_white b) n ++ b ∷ folded_lines true (is_white b) 0 t
first_byte white n b t apart = rw (ne_eqb b 10 apart) refl

pub by_break : (c n indent left b : ℕ) (h inside white : Bool) (t end out all : List ℕ) → b ≡ 10
    → out ++ left_of c h inside white n indent left (b ∷ t) end ≡ all → out ++ left_of c h false white (n + 1) indent indent t end ≡ all
by_break c n indent left b h inside white t end out all is held = rw is at held

pub by_indent : (c n indent left b : ℕ) (h inside white : Bool) (t end out all : List ℕ) → b ≡ 32 → nat_lt 0 left ≡ true
    → out ++ left_of c h inside white n indent left (b ∷ t) end ≡ all → out ++ left_of c h inside white n indent (left - 1) t end ≡ all
by_indent c n indent left b h inside white t end out all is lt held = rw (is, lt) at held

never : (k : Bool) → (k && false) ≡ false
never true = refl
never false = refl

pub by_inside : (c n indent b : ℕ) (h white : Bool) (t end out all : List ℕ) → b ≢ 10
    → out ++ left_of c h true white n indent 0 (b ∷ t) end ≡ all → (out ++ b ∷ []) ++ left_of c true true white n indent 0 t end ≡ all
by_inside c n indent b h white t end out all apart held =
    let x : List ℕ = without_indent indent 0 t ++ end in
    let k : left_of c h true white n indent 0 (b ∷ t) end ≡ b ∷ left_of c true true white n indent 0 t end =
    ap (λ y. chomped c h 0 (folded_lines true white n (y ++ end))) (indented indent 0 b t apart (never (b == 32)))
    ∙ ap (λ y. chomped c h 0 y) (inside_byte white n b x apart) ∙ chomped_byte c h 0 b (folded_lines true white n x) apart in
    append_assoc out (b ∷ []) (left_of c true true white n indent 0 t end) ∙ ap (λ y. out ++ y) (sym k) ∙ held

pub by_first : (c n indent left b : ℕ) (h white : Bool) (t end out all : List ℕ) → b ≢ 10 → ((b == 32) && nat_lt 0 left) ≡ false
    → out ++ left_of c h false white n indent left (b ∷ t) end ≡ all
    → (out ++ ((if white || is_white b then feeds n else between n false) ++ b ∷ [])) ++ left_of c true true (is_white b) 0 indent 0 t end ≡ all
by_first c n indent left b h white t end out all apart other held =
    let x : List ℕ = without_indent indent 0 t ++ end in
    let kept : Bool = white || is_white b in
    let last : List ℕ = left_of c true true (is_white b) 0 indent 0 t end in
    let k : left_of c h false white n indent left (b ∷ t) end ≡ before kept n ++ b ∷ last =
    ap (λ y. chomped c h 0 (folded_lines false white n (y ++ end))) (indented indent left b t apart other)
    ∙ ap (λ y. chomped c h 0 y) (first_byte white n b x apart) ∙ first_by c h n b (folded_lines true (is_white b) 0 x) kept apart in
    append_assoc out (before kept n ++ b ∷ []) last ∙ ap (λ y. out ++ y) (append_assoc (before kept n) (b ∷ []) last ∙ sym k) ∙ held

feeds_end : (c : ℕ) (h : Bool) (n : ℕ) → chomped c h 0 (feeds n) ≡ last_feeds c h n
feeds_end c h n =
    let e : 0 + n ≡ n = omega arith in
    ap (λ y. chomped c h 0 y) (sym (append-nil (feeds n))) ∙ chomped_feeds c h 0 n [] ∙ ap (λ k. last_feeds c h k) e

pub by_end : (c n : ℕ) (h inside white ended : Bool) → chomped c h 0 (folded_lines inside white n (if ended then [] else 10 ∷ [])) ≡ last_feeds c h (n + (if ended then 0 else 1))
by_end c n h inside white true = let e : n + 0 ≡ n = omega arith in feeds_end c h n ∙ ap (λ k. last_feeds c h k) (sym e)
by_end c n h inside white false = feeds_end c h (n + 1)
