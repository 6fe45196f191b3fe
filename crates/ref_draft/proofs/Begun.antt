-- A text that begins or ends as no keyword does that holds subschemas is none.
use Rattle.std.proofs.Common.{◌≡◌, ℕ, List, [], ◌∷◌, Bool, true, false, ◌&&◌, cond, codes, ⊎_elim, refl, sym, ap, ◌∙◌, true≢false, length, ◌-◌, slice_get, Option, Some, None}
use Rattle.std.specs.Str.{bytes_eq}
use Rattle.std.specs.List.{list_all}
use Rattle.std.proofs.lemmas.Bool.{and_parts, or_cases}
use Rattle.ref_draft.specs.declared.draft.Draft.{Draft}
use Rattle.ref_draft.specs.declared.draft.Draft.TheVariants.{Draft4, Draft6, Draft7, Draft201909, Draft202012, Unknown}
use Rattle.ref_draft.specs.declared.spec.Holding.TheVariants.{Whole, WholeObject, Elements, Members as EachMember, ElementsOrWhole, ObjectMembers, Nothing}
use Rattle.ref_draft.specs.Keywords.{is_one_of, row, is_before_2020, boolean_or_schema, holding_of}
use Rattle.ref_draft.specs.inner.Ends.{are_ends}
use Rattle.ref_draft.proofs.Disjoint.{same}

-- the first and the last byte of a text
abbrev pub by_ends : Option ℕ → Option ℕ → Bool
by_ends None last = false
by_ends (Some first) None = false
by_ends (Some first) (Some last) = are_ends first last

abbrev pub has_ends : List ℕ → Bool
has_ends k = by_ends (slice_get k 0) (slice_get k (length k - 1))

among : (k : List ℕ) (ks : List (List ℕ)) → list_all has_ends ks ≡ true → is_one_of k ks ≡ true → has_ends k ≡ true
among k [] all is = absurd (true≢false (sym is))
among k (l ∷ ks) all is =
    let parts = and_parts (has_ends l) (list_all has_ends ks) all in
    ⊎_elim (λ here. ap has_ends (same k l here) ∙ parts.0) (λ later. among k ks parts.1 later) (or_cases (bytes_eq k l) (is_one_of k ks) is)

none : (k : List ℕ) (ks : List (List ℕ)) (is : Bool) → list_all has_ends ks ≡ true → has_ends k ≡ false → is_one_of k ks ≡ is → is ≡ false
none k ks true all lacks is = absurd (true≢false (sym (among k ks all is) ∙ lacks))
none k ks false all lacks is = refl

-- each keyword of a draft has such ends
booleans : (d : Draft) → list_all has_ends (boolean_or_schema d) ≡ true
booleans Draft4 = refl
booleans Draft6 = refl
booleans Draft7 = refl
booleans Draft201909 = refl
booleans Draft202012 = refl
booleans Unknown = refl

values : (d : Draft) → list_all has_ends (row d).values ≡ true
values Draft4 = refl
values Draft6 = refl
values Draft7 = refl
values Draft201909 = refl
values Draft202012 = refl
values Unknown = refl

arrays : (d : Draft) → list_all has_ends (row d).arrays ≡ true
arrays Draft4 = refl
arrays Draft6 = refl
arrays Draft7 = refl
arrays Draft201909 = refl
arrays Draft202012 = refl
arrays Unknown = refl

maps : (d : Draft) → list_all has_ends (row d).maps ≡ true
maps Draft4 = refl
maps Draft6 = refl
maps Draft7 = refl
maps Draft201909 = refl
maps Draft202012 = refl
maps Unknown = refl

one : (k l : List ℕ) (before is : Bool) → has_ends l ≡ true → has_ends k ≡ false → (before && bytes_eq k l) ≡ is → is ≡ false
one k l before true ends lacks is = absurd (true≢false (sym (ap has_ends (same k l (and_parts before (bytes_eq k l) is).1) ∙ ends) ∙ lacks))
one k l before false ends lacks is = refl

nothing : (a b c e f g : Bool) → a ≡ false → b ≡ false → c ≡ false → e ≡ false → f ≡ false → g ≡ false
    → cond a WholeObject (cond b Whole (cond c Elements (cond e EachMember (cond f ElementsOrWhole (cond g ObjectMembers Nothing))))) ≡ Nothing
nothing true b c e f g p q r s t u = absurd (true≢false p)
nothing false true c e f g p q r s t u = absurd (true≢false q)
nothing false false true e f g p q r s t u = absurd (true≢false r)
nothing false false false true f g p q r s t u = absurd (true≢false s)
nothing false false false false true g p q r s t u = absurd (true≢false t)
nothing false false false false false true p q r s t u = absurd (true≢false u)
nothing false false false false false false p q r s t u = refl

pub holds_nothing : (d : Draft) (k : List ℕ) → has_ends k ≡ false → holding_of d k ≡ Nothing
holds_nothing d k lacks =
    nothing (is_one_of k (boolean_or_schema d)) (is_one_of k (row d).values) (is_one_of k (row d).arrays) (is_one_of k (row d).maps) (is_before_2020 d && bytes_eq k (codes "items")) (is_before_2020 d && bytes_eq k (codes "dependencies"))
    (none k (boolean_or_schema d) (is_one_of k (boolean_or_schema d)) (booleans d) lacks refl)
    (none k (row d).values (is_one_of k (row d).values) (values d) lacks refl)
    (none k (row d).arrays (is_one_of k (row d).arrays) (arrays d) lacks refl)
    (none k (row d).maps (is_one_of k (row d).maps) (maps d) lacks refl)
    (one k (codes "items") (is_before_2020 d) (is_before_2020 d && bytes_eq k (codes "items")) refl lacks refl)
    (one k (codes "dependencies") (is_before_2020 d) (is_before_2020 d && bytes_eq k (codes "dependencies")) refl lacks refl)

pub other_ends : (d : Draft) (k : List ℕ) (first last : ℕ) → slice_get k 0 ≡ Some first → slice_get k (length k - 1) ≡ Some last → are_ends first last ≡ false → holding_of d k ≡ Nothing
other_ends d k first last is at lacks = holds_nothing d k (ap (λ o. by_ends o (slice_get k (length k - 1))) is ∙ ap (by_ends (Some first)) at ∙ lacks)
