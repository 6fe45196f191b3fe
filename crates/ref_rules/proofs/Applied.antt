-- Schemas that are applied to the same value, step by step.
use Rattle.std.proofs.Common.{◌≡◌, ◌∙◌, refl, sym, ap, ℕ, ◌-◌, ◌≤◌, ⊎_elim, Bool, true, false, not, ◌&&◌, ◌||◌, List, [], ◌∷◌, length, get_or, take, drop, Some, None, arith}
use Rattle.std.specs.Prelude.{bytes_eq}
use Rattle.std.specs.List.{list_all}
use Rattle.std.proofs.lemmas.Bool.{false≢true, and_parts, and_left, or_cases, not-true}
use Rattle.std.proofs.lemmas.List.{drop_more, take_rest}
use Rattle.std.proofs.lemmas.Slice.Eq.{bytes_eq-Decides}
use Rattle.serde_json.specs.Data.{Data}
use Rattle.ref_paths.specs.Path.{Part, Key, Index, child_at}
use Rattle.ref_draft.specs.declared.draft.Draft.{Draft}
use Rattle.ref_draft.specs.declared.draft.Draft.TheVariants.{Draft4, Draft6, Draft7, Draft201909, Draft202012, Unknown}
use Rattle.ref_draft.specs.Keywords.{is_one_of}
use Rattle.ref_rules.specs.InPlace.{wholes, lists, maps, counts, is_whole, is_inner, below, is_in_place}

-- a text that is one of these is none of those, where none of these is
apart : (k : List ℕ) (ks others : List (List ℕ)) → list_all (λ l. not (is_one_of l others)) ks ≡ true → is_one_of k ks ≡ true → is_one_of k others ≡ false
apart k [] others none is = absurd (false≢true is)
apart k (l ∷ ks) others none is =
    let both = and_parts (not (is_one_of l others)) (list_all (λ m. not (is_one_of m others)) ks) none in
    ⊎_elim
    (λ here. ap (λ m. is_one_of m others) ((bytes_eq-Decides k l).0 here) ∙ not-true (is_one_of l others) both.0)
    (λ later. apart k ks others both.1 later)
    (or_cases (bytes_eq k l) (is_one_of k ks) is)

no_list : (d : Draft) → list_all (λ l. not (is_one_of l lists)) (wholes d) ≡ true
no_list Draft4 = refl
no_list Draft6 = refl
no_list Draft7 = refl
no_list Draft201909 = refl
no_list Draft202012 = refl
no_list Unknown = refl

no_map : (d : Draft) → list_all (λ l. not (is_one_of l (maps d))) (wholes d) ≡ true
no_map Draft4 = refl
no_map Draft6 = refl
no_map Draft7 = refl
no_map Draft201909 = refl
no_map Draft202012 = refl
no_map Unknown = refl

exclusive : (d : Draft) (v : Data) (p q : Part) → is_whole d v p ≡ true → is_inner d v p q ≡ false
exclusive d v (Key k) (Key m) is =
    and_left (is_one_of k (maps d)) (counts d v k) (apart k (wholes d) (maps d) (no_map d) (and_parts (is_one_of k (wholes d)) (counts d v k) is).0)
exclusive d v (Key k) (Index i) is =
    and_left (is_one_of k lists) (counts d v k) (apart k (wholes d) lists (no_list d) (and_parts (is_one_of k (wholes d)) (counts d v k) is).0)
exclusive d v (Index i) q is = absurd (false≢true is)

first_alone : (a b : Bool) → (true && a || false && b) ≡ a
first_alone true b = refl
first_alone false b = refl

-- where the value of a member is applied to the same value
pub whole_step : (d : Draft) (v : Data) (p : Part) (ps : List Part) → is_whole d v p ≡ true → is_in_place d (Some v) (p ∷ ps) ≡ is_in_place d (child_at v p) ps
whole_step d v p [] is = ap (λ b. b && is_in_place d (child_at v p) []) is
whole_step d v p (q ∷ qs) is =
    let a = is_in_place d (child_at v p) (q ∷ qs) in
    let b = is_in_place d (below (child_at v p) q) qs in
    ap (λ w. w && a || is_inner d v p q && b) is ∙ ap (λ i. true && a || i && b) (exclusive d v p q is) ∙ first_alone a b

-- where what is in it is
pub inner_step : (d : Draft) (v : Data) (p q : Part) (qs : List Part) → is_whole d v p ≡ false → is_inner d v p q ≡ true
    → is_in_place d (Some v) (p ∷ q ∷ qs) ≡ is_in_place d (below (child_at v p) q) qs
inner_step d v p q qs none is =
    let a = is_in_place d (child_at v p) (q ∷ qs) in
    let b = is_in_place d (below (child_at v p) q) qs in
    ap (λ w. w && a || is_inner d v p q && b) none ∙ ap (λ i. false && a || i && b) is

-- where neither is
pub no_step : (d : Draft) (v : Data) (p q : Part) (qs : List Part) → is_whole d v p ≡ false → is_inner d v p q ≡ false → is_in_place d (Some v) (p ∷ q ∷ qs) ≡ false
no_step d v p q qs none not_in =
    let a = is_in_place d (child_at v p) (q ∷ qs) in
    let b = is_in_place d (below (child_at v p) q) qs in
    ap (λ w. w && a || is_inner d v p q && b) none ∙ ap (λ i. false && a || i && b) not_in

pub no_last_step : (d : Draft) (v : Data) (p : Part) → is_whole d v p ≡ false → is_in_place d (Some v) (p ∷ []) ≡ false
no_last_step d v p none = ap (λ b. b && is_in_place d (child_at v p) []) none

-- nothing is below what is not there
pub nowhere : (d : Draft) (p : Part) (ps : List Part) → is_in_place d None (p ∷ ps) ≡ false
nowhere d p [] = refl
nowhere d p (q ∷ qs) = refl

-- the first of a list, and the rest
pub first_and_rest : {X : Type 0} (xs : List X) (x : X) → 1 ≤ length xs → x ≡ get_or xs 0 x → xs ≡ x ∷ take (length xs - 1) (drop 1 xs)
first_and_rest xs x some is = drop_more xs 0 x (omega (arith, some)) ∙ ap (λ y. y ∷ drop 1 xs) (sym is) ∙ ap (λ ys. x ∷ ys) (sym (take_rest xs 1))
