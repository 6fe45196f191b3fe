-- What changes say, one more.
use Rattle.std.proofs.Common.{◌≡◌, ℕ, ◌+◌, ◌<◌, List, [], ◌∷◌, ◌++◌, ◌==◌, Bool, true, false, Option, None, Some, if◌then◌else◌, length, take, get_or, refl, sym, ap, ◌∙◌}
use Rattle.std.specs.Option.{option_or}
use Rattle.std.proofs.lemmas.List.{take_more}
use Rattle.std.proofs.lemmas.Bool.{eq-eqb, ne_eqb}
use std.Path.{fun_ext}
use Rattle.ref_edits.specs.declared.plan.Change.{Change}
use Rattle.ref_edits.specs.declared.plan.Part.{Part}
use Rattle.ref_edits.specs.Changed.{Wanted, new_by, new_in, wanted_by}

or_none : {A : Type 0} (o : Option A) → option_or o None ≡ o
or_none None = refl
or_none (Some a) = refl

or_assoc : {A : Type 0} (a b c : Option A) → option_or (option_or a b) c ≡ option_or a (option_or b c)
or_assoc None b c = refl
or_assoc (Some a) b c = refl

-- what a change of some document makes
abbrev pub one : ℕ → Part → List ℕ → Change → Option (List ℕ)
one document part p c = if c.document == document then new_by part p c else None

new_last : (d : ℕ) (part : Part) (p : List ℕ) (cs : List Change) (c : Change) → new_in d part p (cs ++ c ∷ []) ≡ option_or (one d part p c) (new_in d part p cs)
new_last d part p [] c = sym (or_none (one d part p c))
new_last d part p (b ∷ bs) c = ap (λ o. option_or o (one d part p b)) (new_last d part p bs c) ∙ or_assoc (one d part p c) (new_in d part p bs) (one d part p b)

pub new_more : (d : ℕ) (part : Part) (p : List ℕ) (cs : List Change) (i : ℕ) (c : Change) → i < length cs → c ≡ get_or cs i c
    → new_in d part p (take (i + 1) cs) ≡ option_or (one d part p c) (new_in d part p (take i cs))
new_more d part p cs i c within is =
    ap (new_in d part p) (take_more cs i c within ∙ ap (λ x. take i cs ++ x ∷ []) (sym is)) ∙ new_last d part p (take i cs) c

pub same_wanted : (a b : Wanted) → ((p : List ℕ) → a.text p ≡ b.text p) → ((p : List ℕ) → a.key p ≡ b.key p) → a ≡ b
same_wanted a b texts keys =
    ap (λ (t : List ℕ → Option (List ℕ)). record { text = t; key = a.key }) (fun_ext texts)
    ∙ ap (λ (k : List ℕ → Option (List ℕ)). record { text = b.text; key = k }) (fun_ext keys)

-- with a change of the document, and with one of another
pub with_own : (d : ℕ) (part : Part) (p : List ℕ) (cs : List Change) (i : ℕ) (c : Change) (old : Option (List ℕ)) → i < length cs → c ≡ get_or cs i c
    → c.document ≡ d → old ≡ new_in d part p (take i cs) → option_or (new_by part p c) old ≡ new_in d part p (take (i + 1) cs)
with_own d part p cs i c old within is own before =
    ap (λ o. option_or (new_by part p c) o) before
    ∙ ap (λ (t : Bool). option_or (if t then new_by part p c else None) (new_in d part p (take i cs))) (sym (eq-eqb c.document d own))
    ∙ sym (new_more d part p cs i c within is)

pub with_other : (d : ℕ) (part : Part) (p : List ℕ) (cs : List Change) (i : ℕ) (c : Change) (old : Option (List ℕ)) → i < length cs → c ≡ get_or cs i c
    → (c.document ≡ d → ⊥) → old ≡ new_in d part p (take i cs) → old ≡ new_in d part p (take (i + 1) cs)
with_other d part p cs i c old within is other before =
    before
    ∙ ap (λ (t : Bool). option_or (if t then new_by part p c else None) (new_in d part p (take i cs))) (sym (ne_eqb c.document d other))
    ∙ sym (new_more d part p cs i c within is)
