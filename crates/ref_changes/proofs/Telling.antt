-- What is told first.
use Rattle.std.proofs.Common.{◌≡◌, ℕ, zero, suc, ◌<◌, Bool, true, false, ◌&&◌, ◌||◌, List, [], ◌∷◌, ◌++◌, map, flat_map, length, get_or, Option, None, Some, Result, Ok, Err, IfOk, option_map, refl, sym, ap, ◌∙◌, arith}
use Rattle.std.specs.List.{list_any, AllZip}
use Rattle.std.specs.Option.{option_map_or}
use Rattle.ref_paths.specs.Segment.{part_of}
use Rattle.ref_paths.specs.declared.path.JsonPointerSegment.{JsonPointerSegment}
use Rattle.ref_changes.specs.declared.difference.What as rust_what
use Rattle.ref_changes.specs.declared.difference.Difference as rust_difference
use Rattle.ref_changes.specs.Answers.{Change, Texts}
use Rattle.ref_changes.specs.Sites.{Site, site_after}
use Rattle.ref_changes.specs.Changes.{What, Difference, NoPlace, first, differs, whats_at, differences_with, site_differences, name_whats, name_differences}
use Rattle.ref_changes.specs.Views.{what_of, difference_of}
use Rattle.ref_changes.specs.inner.Firsts.{DiffersFirst}
use Rattle.ref_changes.proofs.Firsts.{first_past, first_mapped}

-- ---- one of a list

pub both : (a b : Bool) → a ≡ true → b ≡ true → (a && b) ≡ true
both true b first second = second
both false b first second = cc

found_first : (a b : Bool) → a ≡ true → true ≡ (a || b)
found_first true b is = refl
found_first false b is = cc

found_later : (a b : Bool) → true ≡ b → true ≡ (a || b)
found_later true b is = refl
found_later false b is = is

pub any_at : {X Y : Type 0} (p : Y → Bool) (v : X → Y) (xs : List X) (i : ℕ) (d : X) → i < length xs → p (v (get_or xs i d)) ≡ true → true ≡ list_any p (map v xs)
any_at p v [] i d within is = absurd (omega (arith, within))
any_at p v (x ∷ xs) zero d within is = found_first (p (v x)) (list_any p (map v xs)) is
any_at p v (x ∷ xs) (suc i) d within is = found_later (p (v x)) (list_any p (map v xs)) (any_at p v xs i d (omega (arith, within)) is)

-- ---- at a place

-- what is told of a place, by where it is after
abbrev pub told : Change → Site → Option Site → List What
told c s None = NoPlace ∷ []
told c s (Some t) = whats_at c s t

told_first : (c : Change) (s : Site) (found : Option Site) → option_map (differs s) (first (told c s found)) ≡ first (differences_with c s found)
told_first c s None = refl
told_first c s (Some t) = sym (first_mapped (differs s) (whats_at c s t))

pub site_told : {E : Type 0} (result : Result (Option rust_difference.Difference) E) (c : Change) (after : List Site) (s : Site) (found : Option Site) (what : Option rust_what.What)
    → found ≡ site_after c.moves after s → option_map what_of what ≡ first (told c s found) → IfOk result (λ d. option_map difference_of d ≡ option_map (differs s) (option_map what_of what))
    → DiffersFirst result (site_differences c after s)
site_told (Ok d) c after s found what is whats given =
    given ∙ ap (option_map (differs s)) whats ∙ told_first c s found ∙ ap (λ o. first (differences_with c s o)) is
site_told (Err e) c after s found what is whats given = tt

-- what is told of a name there
abbrev pub named_told : Change → Texts → Site → Option Site → List What
named_told c n s None = []
named_told c n s (Some t) = name_whats c n s t

abbrev named_with : Change → Texts → Site → Option Site → List Difference
named_with c n s found = option_map_or (λ t. map (differs s) (name_whats c n s t)) found []

named_first : (c : Change) (n : Texts) (s : Site) (found : Option Site) → option_map (differs s) (first (named_told c n s found)) ≡ first (named_with c n s found)
named_first c n s None = refl
named_first c n s (Some t) = sym (first_mapped (differs s) (name_whats c n s t))

pub name_told : {E : Type 0} (result : Result (Option rust_difference.Difference) E) (c : Change) (after : List Site) (n : Texts) (s : Site) (found : Option Site) (what : Option rust_what.What)
    → found ≡ site_after c.moves after s → option_map what_of what ≡ first (named_told c n s found) → IfOk result (λ d. option_map difference_of d ≡ option_map (differs s) (option_map what_of what))
    → DiffersFirst result (name_differences c after n s)
name_told (Ok d) c after n s found what is whats given =
    given ∙ ap (option_map (differs s)) whats ∙ named_first c n s found ∙ ap (λ o. first (named_with c n s o)) is
name_told (Err e) c after n s found what is whats given = tt

-- ---- lists one after another

-- where the first list has none, the first of the second is that of both
pub past : {E : Type 0} (result : Result (Option rust_difference.Difference) E) (xs ys zs : List Difference) → first xs ≡ None → zs ≡ ys → DiffersFirst result zs → DiffersFirst result (xs ++ ys)
past (Ok d) xs ys zs none is given = given ∙ ap first is ∙ sym (first_past xs ys none)
past (Err e) xs ys zs none is given = tt

-- ---- copies of paths

pub copied_parts : (xs ys : List JsonPointerSegment) → AllZip (λ s copy. part_of copy ≡ part_of s) xs ys → map part_of ys ≡ map part_of xs
copied_parts [] [] all = refl
copied_parts [] (y ∷ ys) all = absurd all
copied_parts (x ∷ xs) [] all = absurd all
copied_parts (x ∷ xs) (y ∷ ys) all = ap (λ p. p ∷ map part_of ys) all.0 ∙ ap (λ l. part_of x ∷ l) (copied_parts xs ys all.1)
