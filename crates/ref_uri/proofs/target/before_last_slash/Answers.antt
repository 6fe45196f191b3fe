use Rattle.std.proofs.Common.{◌≡◌, ◌≢◌, ℕ, List, ◌<◌, ◌++◌, [], ◌∷◌, take, length, get_or, subst, ap, sym, ◌∙◌, append_assoc}
use Rattle.ref_uri.specs.Components.{is_path}
use Rattle.ref_uri.specs.inner.Written.{is_plain}
use Rattle.ref_uri.proofs.PlainText.{plain_front}
use Rattle.ref_uri.proofs.LastSlash.{through_last_slash_at, through_last_slash_none, front_is_path}
use Rattle.ref_uri.proofs.target.before_last_slash.Goals as goal

-- where the last slash is
abbrev IsLast : List ℕ → ℕ → Type 0
IsLast text k = (k < length text) × (get_or text k 0 ≡ 47) × ((i : ℕ) → k < i → i < length text → get_or text i 0 ≢ 47)

pub returns-in-Some-clause-value : goal.returns-in-Some-clause-value
returns-in-Some-clause-value c = λ more.
    let found = rw c.in-Some.is at c.last_slash.ensures.found in
    let slash = subst (λ (t : List ℕ). IsLast t c.in-Some.slash) c.as_bytes.ensures.value found in
    let front = through_last_slash_at c.args.path.now c.in-Some.slash slash.0 slash.1 slash.2 in
    ap (λ t. t ++ more) front ∙ append_assoc (take c.in-Some.slash c.args.path.now) (47 ∷ []) more ∙ ap (λ t. t ++ 47 ∷ more) (sym c.head.ensures)

pub returns-in-Some-clause-path : goal.returns-in-Some-clause-path
returns-in-Some-clause-path c = λ h.
    let found = rw c.in-Some.is at c.last_slash.ensures.found in
    let slash = subst (λ (t : List ℕ). IsLast t c.in-Some.slash) c.as_bytes.ensures.value found in
    ap is_path c.head.ensures ∙ front_is_path c.args.path.now c.in-Some.slash slash.0 slash.1 h

pub returns-in-None-clause-value : goal.returns-in-None-clause-value
returns-in-None-clause-value c = λ more.
    let none = subst (λ (t : List ℕ). (i : ℕ) → i < length t → get_or t i 0 ≢ 47) c.as_bytes.ensures.value (rw c.in-None.is at c.last_slash.ensures.none) in
    ap (λ t. t ++ more) (through_last_slash_none c.args.path.now none)

pub returns-in-Some-clause-plain : goal.returns-in-Some-clause-plain
returns-in-Some-clause-plain c = λ h. ap is_plain c.head.ensures ∙ plain_front c.in-Some.slash c.args.path.now h
