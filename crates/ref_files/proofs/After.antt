-- What follows a prefix and a slash in a text, by two cuts.
use Rattle.std.proofs.Common.{◌≡◌, ◌≢◌, ℕ, Bool, true, false, List, [], ◌∷◌, ◌++◌, if◌then◌else◌, None, Some, option_and_then, nat_eq, refl, ap, sym, ◌∙◌, append_assoc, rules}
use Rattle.std.proofs.lemmas.List.{append_cancel_left}
use Rattle.ref_files.specs.Meant.{after, path_alone, path_after, without_slashes}

cond_self : (b : ℕ) (text front : List ℕ) (e : Bool) → nat_eq b b ≡ e → (if e then after front text else None) ≡ after front text
cond_self b text front true e = refl
cond_self b text front false e = search (rules, e)

-- what stands after a beginning follows it
pub after_is : (front rest text : List ℕ) → text ≡ front ++ rest → after front text ≡ Some rest
after_is [] rest text is = ap Some is
after_is (b ∷ front) rest text is =
    ap (after (b ∷ front)) is ∙ cond_self b (front ++ rest) front (nat_eq b b) refl ∙ after_is front rest (front ++ rest) refl

after_other : (b : ℕ) (front : List ℕ) (c : ℕ) (text : List ℕ) (e : Bool) → nat_eq c b ≡ e → ((rest : List ℕ) → c ∷ text ≢ b ∷ front ++ rest) → (((rest : List ℕ) → text ≢ front ++ rest) → after front text ≡ None)
    → (if e then after front text else None) ≡ None
after_other b front c text true e other later =
    let same : c ≡ b = search (rules, e) in
    later (λ rest is. other rest (ap (λ d. d ∷ text) same ∙ ap (λ t. b ∷ t) is))
after_other b front c text false e other later = refl

-- a text without the beginning has nothing after it
pub after_none : (front text : List ℕ) → ((rest : List ℕ) → text ≢ front ++ rest) → after front text ≡ None
after_none [] text other = absurd (other text refl)
after_none (b ∷ front) [] other = refl
after_none (b ∷ front) (c ∷ text) other = after_other b front c text (nat_eq c b) refl other (after_none front text)

-- a URI that doesn't begin with the prefix has no path below it
pub no_prefix : (prefix uri : List ℕ) → ((rest : List ℕ) → uri ≢ without_slashes prefix ++ rest) → path_after prefix uri ≡ None
no_prefix prefix uri other =
    let front = without_slashes prefix in
    ap (option_and_then path_alone) (after_none (front ++ 47 ∷ []) uri (λ rest is. other (47 ∷ rest) (is ∙ append_assoc front (47 ∷ []) rest)))

-- nor has one where no slash follows
pub no_slash : (prefix uri rest : List ℕ) → uri ≡ without_slashes prefix ++ rest → ((more : List ℕ) → rest ≢ 47 ∷ more) → path_after prefix uri ≡ None
no_slash prefix uri rest cut other =
    let front = without_slashes prefix in
    let back = λ (more : List ℕ) (is : uri ≡ (front ++ 47 ∷ []) ++ more).
    append_cancel_left front rest (47 ∷ more) (sym cut ∙ is ∙ append_assoc front (47 ∷ []) more) in
    ap (option_and_then path_alone) (after_none (front ++ 47 ∷ []) uri (λ more is. other more (back more is)))

-- and else it has what follows the slash
pub has_path : (prefix uri rest path : List ℕ) → uri ≡ without_slashes prefix ++ rest → rest ≡ 47 ∷ path → path_after prefix uri ≡ path_alone path
has_path prefix uri rest path cut slash =
    let front = without_slashes prefix in
    ap (option_and_then path_alone)
    (after_is (front ++ 47 ∷ []) path uri (cut ∙ ap (λ r. front ++ r) slash ∙ sym (append_assoc front (47 ∷ []) path)))
